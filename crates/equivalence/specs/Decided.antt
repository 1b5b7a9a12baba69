-- What a comparison decides, in the words of what filters write.
use Rattle.std.specs.Prelude.{ℕ, List, Some, None, Ok, Err, Option, Result}
use Rattle.machine.specs.Shortlex.{Earlier}
use Rattle.alphabet.specs.Model.{Model}
use Rattle.table.specs.Table.{Table}
use Rattle.filter.specs.Meaning.{SameOn, Equivalent}
use Rattle.steps.specs.declared.step.Step.{Step}
use Rattle.equivalence.specs.declared.compare.ScratchShort.{ScratchShort}
use Rattle.equivalence.specs.Answers.{text_in}

module _ {G T : Type 0} (m : Model G T) (F H : Table G T) where
  -- the filters are equivalent; or they do not do the same to the text, and they do the same to every earlier one
  abbrev pub Decided : Option (List ℕ) → Type 0
  Decided None = Equivalent m F H
  Decided (Some text) = (SameOn m F H text → ⊥) × ((y : List ℕ) → Earlier y text → SameOn m F H y)

  -- that of an answer with the steps it speaks of
  abbrev pub Decides : List Step → Result (Option ℕ) ScratchShort → Type 0
  Decides L (Err e) = Unit {0}
  Decides L (Ok r) = Decided (text_in L r)
