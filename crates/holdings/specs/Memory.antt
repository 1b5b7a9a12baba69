-- What the memory of a shelf holds, and which tables its holdings are.
use Rattle.std.specs.Prelude.{ℕ, ◌-◌, Bool, cond, ◌&&◌, List, length, take, Ok, Err, sum_by, Result, ◌==◌, nat_le, nat_lt}
use Rattle.table.specs.declared.entries.State.{State}
use Rattle.table.specs.declared.entries.Rule.{Rule}
use Rattle.table.specs.Table.{Table, stretch}
use Rattle.answers.specs.declared.fault.Fault.{Fault}
use Rattle.answers.specs.declared.fault.Fault.TheVariants.{NoHolding}
use Rattle.holdings.specs.declared.memory.Head.{Head}
use Rattle.holdings.specs.declared.memory.Entry.{Entry}
use Rattle.holdings.specs.declared.memory.Shelf.{Shelf}

pub record Memory (G T : Type 0) : Type 0 where
  pub head : Head
  pub ledger : List Entry
  pub states : List State
  pub rules : List (Rule G)
  pub outputs : List T

abbrev pub memory_of : {A G T : Type 0} → Shelf A G T → Memory G T
memory_of s = record { head = s.head; ledger = s.ledger.now; states = s.states.now; rules = s.rules.now; outputs = s.outputs.now }

-- the entries of the ledger that are in use
abbrev pub in_use : {G T : Type 0} → Memory G T → List Entry
in_use M = take M.head.holdings M.ledger

-- how much of a list entries use
abbrev pub states_of_lem : List Entry → ℕ
states_of_lem es = sum_by (λ (e : Entry). e.states) es

abbrev pub rules_of : List Entry → ℕ
rules_of es = sum_by (λ (e : Entry). e.rules) es

abbrev pub outputs_of_lem : List Entry → ℕ
outputs_of_lem es = sum_by (λ (e : Entry). e.outputs) es

-- there are at most 16 holdings, the ledger has them, and they add up to the head
abbrev pub adds_up_lem : Head → List Entry → Bool
adds_up_lem h ledger =
    let es = take h.holdings ledger in
    nat_le h.holdings 16
    && nat_le h.holdings (length ledger)
    && (states_of_lem es == h.states && rules_of es == h.rules && outputs_of_lem es == h.outputs)

-- lists of these lengths hold what the head counts
abbrev pub has_room_lem : Head → ℕ → ℕ → ℕ → Bool
has_room_lem h states rules outputs = nat_le h.states states && nat_le h.rules rules && nat_le h.outputs outputs

-- head, ledger and lists fit each other
abbrev pub fits : {G T : Type 0} → Memory G T → Bool
fits M = adds_up_lem M.head M.ledger && has_room_lem M.head (length M.states) (length M.rules) (length M.outputs)

-- the holding behind i others: its entries stand behind theirs in each list
abbrev pub holding : {G T : Type 0} → Memory G T → ℕ → Table G T
holding M i = record {
  states = stretch (λ (e : Entry). e.states) (in_use M) i M.states;
  rules = stretch (λ (e : Entry). e.rules) (in_use M) i M.rules;
  outputs = stretch (λ (e : Entry). e.outputs) (in_use M) i M.outputs;
}

-- how many holdings stand in front of the one of a number, or that there is none; they are numbered from 1
abbrev pub place_of : {G T : Type 0} → Memory G T → ℕ → Result ℕ Fault
place_of M n = cond (nat_lt 0 n && nat_le n M.head.holdings) (Ok (n - 1)) (Err (NoHolding n))

-- a shelf just opened over lists
abbrev pub opened : {G T : Type 0} → List Entry → List State → List (Rule G) → List T → Memory G T
opened ledger states rules outputs = record {
  head = record { holdings = 0; states = 0; rules = 0; outputs = 0 };
  ledger = ledger;
  states = states;
  rules = rules;
  outputs = outputs;
}
