use Rattle.std.proofs.Common.{◌≡◌, ℕ, ◌<◌, ◌≤◌, true}
use Rattle.mark_laws.specs.Marks.{in_set}
use Rattle.marks.proofs.MarksAlphabet.first_outside.Given as goal

-- the guard holds each of the marks passed
abbrev pub invariant-loop-mark : goal.invariant-loop-mark
invariant-loop-mark l = (k : ℕ) → k < l.mark → l.from ≤ k → in_set l.guard k ≡ true
