-- How long the outputs of a table are.
use Rattle.std.specs.Prelude.{ℕ, max, List, [], ◌∷◌}
use Rattle.table.specs.declared.entries.State.{State}
use Rattle.table.specs.declared.entries.Rule.{Rule}
use Rattle.table.specs.Table.{Table}

-- the largest count
abbrev pub most_of : {X : Type 0} → (X → ℕ) → List X → ℕ
most_of count [] = 0
most_of count (x ∷ xs) = max (count x) (most_of count xs)

-- how many final outputs a state has, and how many outputs a rule
abbrev pub finals_of_lem : State → ℕ
finals_of_lem s = s.finals

abbrev pub outputs_of_lem : {G : Type 0} → Rule G → ℕ
outputs_of_lem r = r.outputs

-- the longest final output of a state or output of a rule
abbrev pub longest_of : {G T : Type 0} → Table G T → ℕ
longest_of F = max (most_of finals_of_lem F.states) (most_of outputs_of_lem F.rules)
