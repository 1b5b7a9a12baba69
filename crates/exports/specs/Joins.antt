-- What joining two byte filters answers.
use Rattle.std.specs.Prelude.{◌≡◌, ℕ, Bool, true, cond, ◌&&◌, List, ◌++◌, map, length, drop, Ok, Err, vec_items, vec_len, Result, nat_le}
use Rattle.range_laws.specs.declared.Range.{Range}
use Rattle.range_laws.specs.declared.RangeTerm.{RangeTerm}
use Rattle.range_laws.specs.Ranges.{ranges}
use Rattle.table.specs.Table.{Table}
use Rattle.table.specs.Check.{checked}
use Rattle.join_laws.specs.Joined.{joined}
use Rattle.join_laws.specs.Theorems.{Limited}
use Rattle.table.specs.Faults.{code_of}
use Rattle.exports.specs.declared.answer.Answer.{Answer}
use Rattle.exports.specs.declared.flat.FlatState.{FlatState}
use Rattle.exports.specs.declared.flat.FlatRule.{FlatRule}
use Rattle.exports.specs.declared.flat.FlatTerm.{FlatTerm}
use Rattle.exports.specs.declared.owned.Owned.{Owned}
use Rattle.exports.specs.declared.joining.JoinFault.{JoinFault}
use Rattle.exports.specs.declared.joining.JoinFault.TheVariants.{First, Second, TooLarge, NoMemory}
use Rattle.exports.specs.Tables.{table_in}
use Rattle.exports.specs.Flats.{flat_state, flat_rule, flat_term}
use Rattle.exports.specs.Answers.{answer, no_memory, refusal}

-- the joined filter, as it is defined; refused where it is over a limit, or a table is unsound
abbrev pub Composed : Table Range RangeTerm → Table Range RangeTerm → Result Owned JoinFault → Type 0
Composed F H (Ok t) = table_in t ≡ joined (ranges 256) F H
Composed F H (Err (First f)) = checked (ranges 256) F ≡ Err f
Composed F H (Err (Second f)) = checked (ranges 256) H ≡ Err f
Composed F H (Err TooLarge) = Limited (joined (ranges 256) F H) → ⊥
Composed F H (Err NoMemory) = Unit {0}

-- the joined filter has room in three lists
abbrev pub has_room_lem : Owned → ℕ → ℕ → ℕ → Bool
has_room_lem t s r o = nat_le (vec_len t.states) s && nat_le (vec_len t.rules) r && nat_le (vec_len t.outputs) o

-- its sizes, with kind 5 where a list is too short for it
abbrev pub join_answer_lem : Result Owned JoinFault → ℕ → ℕ → ℕ → Answer
join_answer_lem (Ok t) s r o = cond (has_room_lem t s r o) (answer 0 (vec_len t.states) (vec_len t.rules) (vec_len t.outputs)) (answer 5 (vec_len t.states) (vec_len t.rules) (vec_len t.outputs))
join_answer_lem (Err (First f)) s r o = refusal 2 (code_of f)
join_answer_lem (Err (Second f)) s r o = refusal 4 (code_of f)
join_answer_lem (Err TooLarge) s r o = answer 1 0 0 0
join_answer_lem (Err NoMemory) s r o = no_memory

-- a list that begins with the flat forms of some entries, and goes on as before
abbrev pub begun : {X Y : Type 0} → (X → Y) → List X → List Y → List Y
begun f xs ys = map f xs ++ drop (length xs) ys

-- the three lists afterwards
abbrev pub Listed : Result Owned JoinFault → (states states' : List FlatState) (rules rules' : List FlatRule) (outputs outputs' : List FlatTerm) → Type 0
Listed (Ok t) states states' rules rules' outputs outputs' =
    has_room_lem t (length states) (length rules) (length outputs) ≡ true
    → (states' ≡ begun flat_state (vec_items t.states) states) × (rules' ≡ begun flat_rule (vec_items t.rules) rules) × (outputs' ≡ begun flat_term (vec_items t.outputs) outputs)
Listed (Err f) states states' rules rules' outputs outputs' = (states' ≡ states) × (rules' ≡ rules) × (outputs' ≡ outputs)

-- the answer to two tables of which nothing is known, and what the three lists hold then
pub record JoinedTo (F H : Table Range RangeTerm) (states states' : List FlatState) (rules rules' : List FlatRule) (outputs outputs' : List FlatTerm) (r : Answer) : Type 0 where
  pub result : Result Owned JoinFault
  pub is : r ≡ join_answer_lem result (length states) (length rules) (length outputs)
  pub lists : Listed result states states' rules rules' outputs outputs'
  pub composed : Composed F H result
