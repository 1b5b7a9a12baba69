-- A filter's table as three lists, and which outputs belong to which state and rule.
use Rattle.std.specs.Prelude.{ℕ, zero, suc, List, [], ◌∷◌, take, drop, sum_by}
use Rattle.table.specs.declared.entries.State.{State}
use Rattle.table.specs.declared.entries.Rule.{Rule}
use Rattle.table.specs.declared.entries.Draft.{Draft}

-- The output list has the final outputs of all states, by state, and then the outputs of all rules, by rule.
pub record Table (G T : Type 0) : Type 0 where
  pub states : List State
  pub rules : List (Rule G)
  pub outputs : List T

-- the table that a draft shows
abbrev pub table_of : {A G T : Type 0} → Draft A G T → Table G T
table_of d = record { states = d.states.now; rules = d.rules.now; outputs = d.outputs.now }

-- each item owns as many entries of a list as its count says, one item after another: those of the item at i
abbrev pub stretch : {X T : Type 0} → (X → ℕ) → List X → ℕ → List T → List T
stretch count [] i ts = []
stretch count (x ∷ xs) zero ts = take (count x) ts
stretch count (x ∷ xs) (suc i) ts = stretch count xs i (drop (count x) ts)

-- how many final outputs, and how many outputs of rules, there are
abbrev pub final_total_of : List State → ℕ
final_total_of states = sum_by (λ (s : State). s.finals) states

abbrev pub rule_total_of : {G : Type 0} → List (Rule G) → ℕ
rule_total_of {G} rules = sum_by (λ (r : Rule G). r.outputs) rules

-- the final outputs of the state q
abbrev pub final_outputs : {G T : Type 0} → Table G T → ℕ → List T
final_outputs F q = stretch (λ (s : State). s.finals) F.states q F.outputs

-- the outputs of all rules, and those of the rule i
abbrev pub all_rule_outputs : {G T : Type 0} → Table G T → List T
all_rule_outputs F = drop (final_total_of F.states) F.outputs

abbrev pub rule_outputs : {G T : Type 0} → Table G T → ℕ → List T
rule_outputs {G} F i = stretch (λ (r : Rule G). r.outputs) F.rules i (all_rule_outputs F)
