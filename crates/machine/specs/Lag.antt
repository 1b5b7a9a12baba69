-- What is left of two outputs once their longest common front is stripped from both.
use Rattle.std.specs.Prelude.{ℕ, cond, List, [], ◌∷◌, ◌==◌}
use Rattle.machine.specs.Machine.{Machine, run}
use Rattle.machine.specs.Sides.{output_of}

-- the lag of two outputs
unfoldable pub lag : List ℕ → List ℕ → List ℕ × List ℕ
lag [] y = ([], y)
lag (a ∷ x) [] = (a ∷ x, [])
lag (a ∷ x) (b ∷ y) = let r = lag x y in cond (a == b) r (a ∷ x, b ∷ y)

-- the lag of the two machines after a text
abbrev pub lag_of : Machine → Machine → List ℕ → List ℕ × List ℕ
lag_of a b u = lag (output_of (run a u 0)) (output_of (run b u 0))
