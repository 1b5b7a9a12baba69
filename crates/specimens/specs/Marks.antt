-- The filters over shelf marks that the cases speak of.
use Rattle.std.specs.Prelude.{ℕ, [], ◌∷◌, Some}
use Rattle.mark_laws.specs.declared.MarkSet.{MarkSet}
use Rattle.mark_laws.specs.declared.MarkTerm.{MarkTerm}
use Rattle.mark_laws.specs.declared.MarkTerm.TheVariants.{Turn}
use Rattle.mark_laws.specs.Marks.{marks}
use Rattle.table.specs.Table.{Table}
use Rattle.join_laws.specs.Lines.{table_from}

-- each of the 37 marks times a factor plus an offset, modulo 37; one state, which accepts and writes nothing at the end
abbrev pub turned : ℕ → ℕ → Table MarkSet MarkTerm
turned factor offset =
    table_from marks (Some [] ∷ []) (record { state = 0; next = 0; guard = record { bits = 0x1fffffffff }; outputs = Turn factor offset ∷ [] } ∷ [])
