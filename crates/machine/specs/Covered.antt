-- Texts that a search for the earliest distinguishing text may leave out.
use Rattle.std.specs.Prelude.{ℕ, List, [], ◌∷◌, ◌++◌, Option}
use Rattle.machine.specs.Machine.{Machine, Distinguishes}
use Rattle.machine.specs.Shortlex.{Earlier}
use Rattle.machine.specs.Sides.{Arrives}

-- wherever the text, however it goes on, distinguishes, something earlier does
abbrev pub Covered : Machine → Machine → List ℕ → Type 0
Covered a b t = (v : List ℕ) → Distinguishes a b (t ++ v) → (y : List ℕ) × Earlier y (t ++ v) × Distinguishes a b y

-- the symbol need not be tried after any text that leads to the two sides
abbrev pub Idle : Machine → Machine → Option ℕ → Option ℕ → ℕ → Type 0
Idle a b l r s = (u : List ℕ) → Arrives a b u l r → Covered a b (u ++ (s ∷ []))
