-- What a comparison decides of the step that it answers.
use Rattle.std.proofs.Common.{◌≡◌, ℕ, List, Option, subst}
use Rattle.alphabet.specs.Model.{Model}
use Rattle.table.specs.Table.{Table}
use Rattle.steps.specs.declared.step.Step.{Step}
use Rattle.equivalence.specs.Answers.{text_in}
use Rattle.equivalence.specs.Decided.{Decided}

pub decided : {G T : Type 0} (m : Model G T) (F H : Table G T) (L : List Step) (o p : Option ℕ) → o ≡ p → Decided m F H (text_in L o) → Decided m F H (text_in L p)
decided m F H L o p same d = subst (λ x. Decided m F H (text_in L x)) same d
