-- The numbers of the causes.
use Rattle.std.specs.Prelude.{ℕ}
use Rattle.alphabet.specs.declared.cause.Cause.{Cause}
use Rattle.alphabet.specs.declared.cause.Cause.TheVariants.{NoSymbols, BeyondSize, OutOfBounds, NotSuiting}

abbrev pub cause_number : Cause → ℕ
cause_number NoSymbols = 1
cause_number BeyondSize = 2
cause_number OutOfBounds = 3
cause_number NotSuiting = 4
