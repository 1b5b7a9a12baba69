-- The tables that flat lists stand for.
use Rattle.std.specs.Prelude.{cond, List, map, pos, ◌==◌}
use Rattle.range_laws.specs.declared.Range.{Range}
use Rattle.range_laws.specs.declared.RangeTerm.{RangeTerm}
use Rattle.range_laws.specs.declared.RangeTerm.TheVariants.{Constant, Shift}
use Rattle.table.specs.declared.entries.State.{State}
use Rattle.table.specs.declared.entries.Rule.{Rule}
use Rattle.table.specs.Table.{Table}
use Rattle.exports.specs.declared.flat.FlatState.{FlatState}
use Rattle.exports.specs.declared.flat.FlatRule.{FlatRule}
use Rattle.exports.specs.declared.flat.FlatTerm.{FlatTerm}

abbrev pub state_of : FlatState → State
state_of s = record { mark = s.mark; finals = s.finals }

abbrev pub rule_of_lem : FlatRule → Rule Range
rule_of_lem r = record { state = r.state; next = r.next; outputs = r.outputs; guard = record { low = r.low; high = r.high } }

-- a constant where the tag is 0, else a shift
abbrev pub term_of : FlatTerm → RangeTerm
term_of t = cond (t.tag == 0) (Constant t.constant) (Shift t.shift)

-- the same back
abbrev pub flat_state : State → FlatState
flat_state s = record { mark = s.mark; finals = s.finals }

abbrev pub flat_rule : Rule Range → FlatRule
flat_rule r = record { state = r.state; next = r.next; outputs = r.outputs; low = r.guard.low; high = r.guard.high }

abbrev pub flat_term : RangeTerm → FlatTerm
flat_term (Constant c) = record { tag = 0; constant = c; shift = pos 0 }
flat_term (Shift k) = record { tag = 1; constant = 0; shift = k }

abbrev pub flat_table : List FlatState → List FlatRule → List FlatTerm → Table Range RangeTerm
flat_table states rules outputs = record { states = map state_of states; rules = map rule_of_lem rules; outputs = map term_of outputs }
