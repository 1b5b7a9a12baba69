use Rattle.std.proofs.Common.{◌≡◌, ℕ, ◌-◌, ◌<◌, false}
use Rattle.alphabet.specs.Questions.{both}
use Rattle.alphabet.proofs.least_shared.Given as goal

-- the two guards share nothing below `from`
abbrev pub invariant-loop-low : goal.invariant-loop-low
invariant-loop-low g l = (k : ℕ) → k < l.from → both g.A.Alphabet.model l.left l.right k ≡ false

abbrev pub decreases-loop-low : goal.decreases-loop-low
decreases-loop-low g l = g.A.Alphabet.model.size - l.from
