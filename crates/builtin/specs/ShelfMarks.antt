-- The tables of the filters over shelf marks.
use Rattle.std.specs.Prelude.{ℕ, [], ◌∷◌}
use Rattle.mark_laws.specs.declared.MarkSet.{MarkSet}
use Rattle.mark_laws.specs.declared.MarkTerm.{MarkTerm}
use Rattle.mark_laws.specs.declared.MarkTerm.TheVariants.{Turn}
use Rattle.table.specs.declared.entries.State.{State}
use Rattle.table.specs.declared.entries.Rule.{Rule}
use Rattle.table.specs.Table.{Table}

abbrev rule : ℕ → ℕ → ℕ → ℕ → Rule MarkSet
rule from to outputs bits = record { state = from; next = to; outputs = outputs; guard = record { bits = bits } }

abbrev accepting : State
accepting = record { mark = 1; finals = 0 }

-- the 36 digits and letters are copied in state 0, the star leads to state 1, where all 37 marks are dropped
abbrev pub public_table : Table MarkSet MarkTerm
public_table = record {
  states = accepting ∷ (accepting ∷ []);
  rules = rule 0 0 1 68719476735 ∷ (rule 0 1 0 68719476736 ∷ (rule 1 1 0 137438953471 ∷ []));
  outputs = Turn 1 0 ∷ [];
}
