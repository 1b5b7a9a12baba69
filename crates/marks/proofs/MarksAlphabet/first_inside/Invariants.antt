use Rattle.std.proofs.Common.{◌≡◌, ℕ, ◌<◌, ◌≤◌, false}
use Rattle.mark_laws.specs.Marks.{in_set}
use Rattle.marks.proofs.MarksAlphabet.first_inside.Given as goal

-- the guard holds none of the marks passed
abbrev pub invariant-loop-mark : goal.invariant-loop-mark
invariant-loop-mark l = (k : ℕ) → k < l.mark → l.from ≤ k → in_set l.guard k ≡ false
