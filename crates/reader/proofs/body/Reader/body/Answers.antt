use Rattle.std.proofs.Common.{sym, ap, arith}
use Rattle.stored_laws.specs.Format.{body_size}
use Rattle.reader.proofs.Stands.{whole_is, body_inside}
use Rattle.reader.proofs.body.Reader.body.Goals as goal

pub cut-requires : goal.cut-requires
cut-requires c =
    let file = c.args.self.now.file.now in
    let W = whole_is file (sym c.if-not-is_whole.ensures) in
    let inside = body_inside file c.args.i (omega arith) in
    let size = ap body_size c.counts_at.ensures in
    record { inside = omega arith }
