-- How far a machine comes with a text, and what it has written by then, whether or not it gets through.
use Rattle.std.specs.Prelude.{ℕ, ◌+◌, List, [], ◌∷◌, ◌++◌, Some, None, Option}
use Rattle.machine.specs.Machine.{Machine}

-- y, or what f makes of what is there
abbrev pub or_else : {X Y : Type 0} → Option X → Y → (X → Y) → Y
or_else None y f = y
or_else (Some x) y f = f x

-- how many symbols are read before the first that has no move from the state reached there
unfoldable pub position : Machine → List ℕ → ℕ → ℕ
position m [] q = 0
position m (s ∷ u) q = or_else (m.step q s) 0 (λ r. 1 + position m u r.0)

-- what is written up to there
unfoldable pub written : Machine → List ℕ → ℕ → List ℕ
written m [] q = []
written m (s ∷ u) q = or_else (m.step q s) [] (λ r. r.1 ++ written m u r.0)
