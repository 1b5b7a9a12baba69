use Rattle.std.proofs.Common.{◌≡◌}
use Rattle.mark_laws.specs.Marks.{bits_of, goes_into_lem}
use Rattle.marks.proofs.MarksAlphabet.narrowed.Given as goal

-- the bits are those of the marks passed
abbrev pub invariant-loop-mark : goal.invariant-loop-mark
invariant-loop-mark l = l.bits ≡ bits_of l.mark (goes_into_lem l.guard l.term l.into)
