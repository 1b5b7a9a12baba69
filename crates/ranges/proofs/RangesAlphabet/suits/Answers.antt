use native.Mathlib.Omega.{arith}
use Rattle.range_laws.specs.Ranges.{clamped}
use Rattle.range_laws.proofs.Questions.{suits_ends}
use Rattle.ranges.proofs.RangesAlphabet.suits.Goals as goal

pub returns-then-is_some : goal.returns-then-is_some
returns-then-is_some g c =
    let e = suits_ends (clamped g.row.SIZE) c.args.term c.args.guard c.requires.guard in
    grind arith

pub returns-else-is_some : goal.returns-else-is_some
returns-else-is_some g c =
    let e = suits_ends (clamped g.row.SIZE) c.args.term c.args.guard c.requires.guard in
    grind arith
