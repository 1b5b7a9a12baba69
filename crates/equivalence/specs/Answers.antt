-- What a comparison answers.
use Rattle.std.specs.Prelude.{ℕ, ◌*◌, ◌<◌, ◌≤◌, ◌⊎◌, List, length, Some, None, Ok, Err, Option, Result}
use Rattle.machine.specs.Compared.{Told}
use Rattle.alphabet.specs.Model.{Model}
use Rattle.table.specs.Table.{Table}
use Rattle.filter.specs.Machines.{machine_of}
use Rattle.steps.specs.declared.step.Side.{Side}
use Rattle.steps.specs.declared.step.Visit.TheVariants.{First}
use Rattle.steps.specs.declared.step.Step.{Step}
use Rattle.steps.specs.Steps.{text}
use Rattle.steps.specs.Places.{steps_needed_lem}
use Rattle.equivalence.specs.declared.compare.ScratchShort.{ScratchShort}
use Rattle.judging.specs.Frames.{room_of}

-- the text of a step, if one is answered
abbrev pub text_in : List Step → Option ℕ → Option (List ℕ)
text_in L None = None
text_in L (Some k) = Some (text L k)

-- the answered step is there, and its text is shorter than n
abbrev pub Early : ℕ → List Step → Option ℕ → Type 0
Early n L None = Unit {0}
Early n L (Some k) = (k < length L) × (length (text L k) < n)

-- the step of the empty text, and its place
abbrev pub root_side : Side
root_side = record { state = Some 0; from = 0; to = 0; total = 0 }

abbrev pub root_step : Step
root_step = record { parent = 0; symbol = 0; left = root_side; right = root_side; visit = First }

abbrev pub root_place : ℕ
root_place = 0

module _ {G T : Type 0} (m : Model G T) (F H : Table G T) where
  -- how many steps and symbols a comparison needs
  abbrev pub steps_for : ℕ
  steps_for = steps_needed_lem (length F.states) (length H.states)

  abbrev pub symbols_for : ℕ
  symbols_for = 6 * room_of F H

  -- what is answered with n slots for steps and k scratch symbols: a refusal exactly where they are too few, else the
  -- step of the earliest distinguishing text, shorter than the number of steps needed, or none
  abbrev pub Compared : ℕ → ℕ → List Step → Result (Option ℕ) ScratchShort → Type 0
  Compared n k L (Err e) = (n < steps_for) ⊎ (k < symbols_for)
  Compared n k L (Ok r) = (steps_for ≤ n) × (symbols_for ≤ k) × Told (machine_of m F) (machine_of m H) (text_in L r) × Early steps_for L r
