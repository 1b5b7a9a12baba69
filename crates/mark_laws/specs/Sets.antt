-- What is true of sets of marks beyond the laws of an alphabet.
use Rattle.std.specs.Prelude.{◌≡◌, ℕ, cond, Some, None, Ok}
use Rattle.mark_laws.specs.declared.MarkSet.{MarkSet}
use Rattle.mark_laws.specs.declared.MarkTerm.TheVariants.{Constant}
use Rattle.mark_laws.specs.Marks.{check_set, in_set, narrowed_to}

-- sound sets with the same marks are one
abbrev pub Canonical : Type 0
Canonical = (g h : MarkSet) → check_set g ≡ Ok tt → check_set h ≡ Ok tt → ((s : ℕ) → in_set g s ≡ in_set h s) → g ≡ h

-- a constant takes the whole of a set or nothing of it
abbrev pub ConstantNarrows : Type 0
ConstantNarrows = (g h : MarkSet) (c : ℕ) → check_set g ≡ Ok tt → narrowed_to g (Constant c) h ≡ cond (in_set h c) (Some g) None
