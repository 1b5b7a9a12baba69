-- The table that an owned filter holds.
use Rattle.std.specs.Prelude.{vec_items}
use Rattle.range_laws.specs.declared.Range.{Range}
use Rattle.range_laws.specs.declared.RangeTerm.{RangeTerm}
use Rattle.table.specs.Table.{Table}
use Rattle.exports.specs.declared.owned.Owned.{Owned}

abbrev pub table_in : Owned → Table Range RangeTerm
table_in t = record { states = vec_items t.states; rules = vec_items t.rules; outputs = vec_items t.outputs }
