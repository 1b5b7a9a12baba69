-- The memory that a caller lends a call to work in, by its lengths, and when it is enough.
use Rattle.std.specs.Prelude.{ℕ, ◌<◌, ◌≤◌, ◌⊎◌, length}
use Rattle.alphabet.specs.Model.{Model}
use Rattle.table.specs.Table.{Table}
use Rattle.equivalence.specs.Answers.{steps_for, symbols_for}

-- Scratch for comparing: slots for steps, and symbols.
pub record Scratch : Type 0 where
  pub steps : ℕ
  pub symbols : ℕ

abbrev pub scratch_of : ℕ → ℕ → Scratch
scratch_of n k = record { steps = n; symbols = k }

module _ {G T : Type 0} (m : Model G T) (S : Scratch) (F H : Table G T) where
  -- enough to compare two filters: with p and q states, S = 2pq + p + q, and w the longest output of either and at
  -- least 1, that is S steps and 6(S + 1)w symbols
  abbrev pub Enough : Type 0
  Enough = (steps_for m F H ≤ S.steps) × (symbols_for m F H ≤ S.symbols)

  -- not enough
  abbrev pub Short : Type 0
  Short = (S.steps < steps_for m F H) ⊎ (S.symbols < symbols_for m F H)

-- Lists for joining: those of the joined filter, and one for its pairs of states.
pub record Lists : Type 0 where
  pub states : ℕ
  pub rules : ℕ
  pub outputs : ℕ
  pub pairs : ℕ

abbrev pub lists_of : ℕ → ℕ → ℕ → ℕ → Lists
lists_of s r o p = record { states = s; rules = r; outputs = o; pairs = p }

-- the lists hold a joined filter and its pairs
pub record HeldBy {G T : Type 0} (L : Lists) (J : Table G T) : Type 0 where
  pub states : length J.states ≤ L.states
  pub rules : length J.rules ≤ L.rules
  pub outputs : length J.outputs ≤ L.outputs
  pub pairs : length J.states ≤ L.pairs
