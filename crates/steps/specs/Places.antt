-- A place for each pair of states and visit, and how a step is found by its place.
use Rattle.std.specs.Prelude.{◌≡◌, ℕ, ◌+◌, ◌*◌, ◌<◌, List, length, Some, None, Option, ◌≢◌, slice_index}
use Rattle.steps.specs.declared.step.Visit.{Visit}
use Rattle.steps.specs.declared.step.Visit.TheVariants.{First, Second}
use Rattle.steps.specs.declared.step.Step.{Step}
use Rattle.steps.specs.Steps.{at}

-- how many steps a comparison of filters with p and q states makes at most
abbrev pub steps_needed_lem : ℕ → ℕ → ℕ
steps_needed_lem p q = 2 * (p * q) + p + q

-- the number of a state, and p where there is none
abbrev pub number_of : ℕ → Option ℕ → ℕ
number_of p None = p
number_of p (Some l) = l

-- the place of a pair of states: first visits come first, and those of two living sides again behind them
abbrev pub place_of : ℕ → ℕ → Option ℕ → Option ℕ → Visit → ℕ
place_of p q l r First = number_of p l * (q + 1) + number_of q r
place_of p q l r Second = p * q + p + q + (number_of p l * q + number_of q r)

-- the place of a step
abbrev pub place_at : ℕ → ℕ → Step → ℕ
place_at p q x = place_of p q x.left.state x.right.state x.visit

-- states that are there, on one side at least, and on both at a second visit
abbrev pub Proper : ℕ → ℕ → Option ℕ → Option ℕ → Visit → Type 0
Proper p q None None visit = ⊥
Proper p q None (Some r) First = r < q
Proper p q None (Some r) Second = ⊥
Proper p q (Some l) None First = l < p
Proper p q (Some l) None Second = ⊥
Proper p q (Some l) (Some r) visit = (l < p) × (r < q)

-- a step's states are there
abbrev pub ProperAt : ℕ → ℕ → Step → Type 0
ProperAt p q x = Proper p q x.left.state x.right.state x.visit

-- each step has a place, and the cell of that place has its number; other cells may hold anything
pub record Placed (p q : ℕ) (L : List Step) (C : List ℕ) : Type 0 where
  pub proper : (i : ℕ) → i < length L → ProperAt p q (at L i)
  pub cell : (i : ℕ) → i < length L → slice_index C (place_at p q (at L i)) ≡ i

-- no step has the place, or the step of this number has it
abbrev pub Found : ℕ → ℕ → List Step → ℕ → Option ℕ → Type 0
Found p q L n None = (i : ℕ) → i < length L → place_at p q (at L i) ≢ n
Found p q L n (Some i) = (i < length L) × (place_at p q (at L i) ≡ n)
