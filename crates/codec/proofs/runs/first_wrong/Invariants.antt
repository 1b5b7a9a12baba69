use Rattle.std.proofs.Common.{◌≡◌, ◌+◌, ◌-◌, ◌*◌, drop}
use Rattle.codec_laws.specs.Lists.{wrong_from}
use Rattle.codec.proofs.runs.first_wrong.Given as goal

abbrev pub invariant-loop-i : goal.invariant-loop-i
invariant-loop-i g l =
    let c = g.R.Record.code in
    (l.at ≡ l.from + l.i * c.width) × (wrong_from c l.at (l.count - l.i) (drop l.at l.file) ≡ wrong_from c l.from l.count (drop l.from l.file))
