use Rattle.std.proofs.Common.{arith}
use Rattle.std.proofs.lemmas.Bool.Decides.{nat_tests}
use Rattle.reader.proofs.Stands.{end_is}
use Rattle.reader.proofs.places.is_whole.Goals as goal

pub returns-then-bodies-rest : goal.returns-then-bodies-rest
returns-then-bodies-rest c =
    let e = end_is c.args.file.now in
    let s = c.body_at.ensures.place in
    grind (arith, nat_tests)
