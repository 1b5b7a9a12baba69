use Rattle.std.proofs.Common.{◌≡◌, ◌≤◌, drop}
use Rattle.codec_laws.specs.Numbers.{at}
use Rattle.stored_laws.specs.Format.{contents, bodies_at, wrong_in}
use Rattle.reader.specs.Parts.{body_at}
use Rattle.reader.proofs.open.first_bad.Given as goal

abbrev pub invariant-loop-body : goal.invariant-loop-body
invariant-loop-body g l =
    let c = g.T.Record.code in
    let file = l.reader.file.now in
    let i = l.body-iterator.given in
    record {
      same : l.body-iterator.reader.file.now ≡ file;
      within : i ≤ at file 1;
      wrong : wrong_in c file (body_at file i) (drop i (contents file)) ≡ wrong_in c file (bodies_at file) (contents file);
    }
