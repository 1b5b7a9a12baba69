-- A table line by line: each rule beside its own outputs, and back to a table.
use Rattle.std.specs.Prelude.{ℕ, Bool, ◌&&◌, List, [], ◌∷◌, ◌++◌, map, length, take, drop, Some, None, Option, ◌==◌}
use Rattle.machine.specs.Machine.{and_then}
use Rattle.alphabet.specs.Model.{Model}
use Rattle.table.specs.declared.entries.State.{State}
use Rattle.table.specs.declared.entries.Rule.{Rule}
use Rattle.table.specs.Table.{Table, all_rule_outputs}
use Rattle.filter.specs.Machines.{values_of}
use Rattle.join_laws.specs.Lists.{first, gathered}

-- a rule with the output terms that it writes
pub record Line (G T : Type 0) : Type 0 where
  pub state : ℕ
  pub next : ℕ
  pub guard : G
  pub outputs : List T

abbrev pub line_of : {G T : Type 0} → Rule G → List T → Line G T
line_of r ts = record { state = r.state; next = r.next; guard = r.guard; outputs = ts }

-- each rule takes as many outputs as it counts, one rule after another
abbrev pub lines_from : {G T : Type 0} → List (Rule G) → List T → List (Line G T)
lines_from [] ts = []
lines_from (r ∷ rs) ts = line_of r (take r.outputs ts) ∷ lines_from rs (drop r.outputs ts)

-- the lines of a table
unfoldable pub lines_of : {G T : Type 0} → Table G T → List (Line G T)
lines_of F = lines_from F.rules (all_rule_outputs F)

-- a line as an entry of the rule list
abbrev pub rule_of_lem : {G T : Type 0} → Line G T → Rule G
rule_of_lem l = record { state = l.state; next = l.next; outputs = length l.outputs; guard = l.guard }

-- a final output as an entry of the state list: it accepts with so many symbols, or rejects
abbrev pub state_of : Option (List ℕ) → State
state_of None = record { mark = 0; finals = 0 }
state_of (Some w) = record { mark = 1; finals = length w }

module _ {G T : Type 0} (m : Model G T) where
  -- the symbols of a final output as constant terms
  abbrev pub constants : Option (List ℕ) → List T
  constants None = []
  constants (Some w) = map m.constant w

  -- the table with these final outputs, by state, and these lines
  abbrev pub table_from : List (Option (List ℕ)) → List (Line G T) → Table G T
  table_from finals lines = record {
    states = map state_of finals;
    rules = map rule_of_lem lines;
    outputs = gathered constants finals ++ gathered (λ (l : Line G T). l.outputs) lines;
  }

  -- the line is one of state q and holds s
  abbrev pub fires : ℕ → ℕ → Line G T → Bool
  fires q s l = l.state == q && m.holds l.guard s

  -- where the line leads, and what it writes at s
  abbrev pub goes : ℕ → Line G T → Option (ℕ × List ℕ)
  goes s l = Some (l.next, values_of m l.outputs s)

  -- the move from q on s by these lines
  abbrev pub move : List (Line G T) → ℕ → ℕ → Option (ℕ × List ℕ)
  move lines q s = and_then (first (fires q s) lines) (goes s)
