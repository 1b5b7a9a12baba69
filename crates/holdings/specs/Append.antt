-- A table put behind the holdings of a shelf.
use Rattle.std.specs.Prelude.{◌≡◌, ℕ, ◌+◌, ◌<◌, Bool, true, ◌&&◌, List, ◌++◌, length, take, drop, nat_le, nat_lt, slice_set}
use Rattle.table.specs.Table.{Table}
use Rattle.holdings.specs.declared.memory.Entry.{Entry}
use Rattle.holdings.specs.Memory.{Memory, fits, holding}

-- ys written over xs from n on
abbrev pub over : {X : Type 0} → List X → ℕ → List X → List X
over xs n ys = take n xs ++ (ys ++ drop (n + length ys) xs)

module _ {G T : Type 0} (M : Memory G T) (F : Table G T) where
  -- there are fewer than 16 holdings, and ledger and lists have room
  abbrev pub room_for : Bool
  room_for =
      nat_lt M.head.holdings 16
      && nat_lt M.head.holdings (length M.ledger)
      && (nat_le (M.head.states + length F.states) (length M.states)
      && nat_le (M.head.rules + length F.rules) (length M.rules)
      && nat_le (M.head.outputs + length F.outputs) (length M.outputs))

  -- the counts of the table
  abbrev pub entry_of : Entry
  entry_of = record { states = length F.states; rules = length F.rules; outputs = length F.outputs }

  -- the memory with the table as its last holding; entries behind it are as they were
  abbrev pub appended : Memory G T
  appended = record {
    head = record {
      holdings = M.head.holdings + 1;
      states = M.head.states + length F.states;
      rules = M.head.rules + length F.rules;
      outputs = M.head.outputs + length F.outputs;
    };
    ledger = slice_set M.ledger M.head.holdings entry_of;
    states = over M.states M.head.states F.states;
    rules = over M.rules M.head.rules F.rules;
    outputs = over M.outputs M.head.outputs F.outputs;
  }

-- after a table was put behind the holdings of one memory, the other has them as they were, and the table behind them
pub record Adds {G T : Type 0} (before : Memory G T) (F : Table G T) (after : Memory G T) : Type 0 where
  pub fitting : fits after ≡ true
  pub one_more : after.head.holdings ≡ before.head.holdings + 1
  pub kept : (i : ℕ) → i < before.head.holdings → holding after i ≡ holding before i
  pub last : holding after before.head.holdings ≡ F
