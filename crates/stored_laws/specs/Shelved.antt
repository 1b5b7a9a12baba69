-- Tables put on a shelf from its front on, and the tables that a shelf holds.
use Rattle.std.specs.Prelude.{ℕ, ◌+◌, cond, List, [], ◌∷◌, map, length, is_ok, Ok, Err, Result, nat_le}
use Rattle.std.specs.List.{flat_map}
use Rattle.alphabet.specs.Model.{Model}
use Rattle.table.specs.declared.entries.State.{State}
use Rattle.table.specs.declared.entries.Rule.{Rule}
use Rattle.table.specs.Table.{Table}
use Rattle.table.specs.Results.{map_err}
use Rattle.holdings.specs.declared.memory.Entry.{Entry}
use Rattle.holdings.specs.declared.memory.Head.{Head}
use Rattle.holdings.specs.Memory.{Memory, in_use, holding}
use Rattle.holdings.specs.Check.{checked_shelf}
use Rattle.holdings.specs.Append.{over}
use Rattle.codec_laws.specs.Code.{Code}
use Rattle.stored_laws.specs.declared.StoredFault.{StoredFault}
use Rattle.stored_laws.specs.declared.StoredFault.TheVariants.{TooShort, Shelf}
use Rattle.stored_laws.specs.Format.{counts_of, then, unless, bytes_of}

-- all states, rules and outputs of tables, by table
abbrev pub all_states : {G T : Type 0} → List (Table G T) → List State
all_states {G} {T} Fs = flat_map (λ (F : Table G T). F.states) Fs

abbrev pub all_rules : {G T : Type 0} → List (Table G T) → List (Rule G)
all_rules {G} {T} Fs = flat_map (λ (F : Table G T). F.rules) Fs

abbrev pub all_outputs : {G T : Type 0} → List (Table G T) → List T
all_outputs {G} {T} Fs = flat_map (λ (F : Table G T). F.outputs) Fs

-- the head of a shelf with these tables
abbrev pub head_of : {G T : Type 0} → List (Table G T) → Head
head_of Fs = record { holdings = length Fs; states = length (all_states Fs); rules = length (all_rules Fs); outputs = length (all_outputs Fs) }

-- the first list, in the order ledger, states, rules, outputs, that is too short for what a head counts
abbrev pub room_for : {G T : Type 0} → Memory G T → Head → Result Unit StoredFault
room_for M h =
    then (unless (nat_le h.holdings (length M.ledger)) (TooShort h.holdings))
    (then (unless (nat_le h.states (length M.states)) (TooShort h.states))
    (then (unless (nat_le h.rules (length M.rules)) (TooShort h.rules))
    (unless (nat_le h.outputs (length M.outputs)) (TooShort h.outputs))))

module _ {G T : Type 0} (M : Memory G T) where
  -- the tables of the holdings; i stand before the first entry
  abbrev pub tables_from : ℕ → List Entry → List (Table G T)
  tables_from i [] = []
  tables_from i (e ∷ es) = holding M i ∷ tables_from (i + 1) es

  abbrev pub tables_of : List (Table G T)
  tables_of = tables_from 0 (in_use M)

  module _ (Fs : List (Table G T)) where
    -- the first list that is too short for them, with the length it needs
    abbrev pub room_of : Result Unit StoredFault
    room_of = room_for M (head_of Fs)

    -- the memory with these tables as its holdings; what stands behind them is as it was
    abbrev pub shelved : Memory G T
    shelved = record {
      head = head_of Fs;
      ledger = over M.ledger 0 (map counts_of Fs);
      states = over M.states 0 (all_states Fs);
      rules = over M.rules 0 (all_rules Fs);
      outputs = over M.outputs 0 (all_outputs Fs);
    }

  -- what decoding a file with this meaning answers, and the memory after it: a refusal changes nothing
  abbrev pub decoded : Result (List (Table G T)) StoredFault → Result Unit StoredFault
  decoded (Ok Fs) = room_of Fs
  decoded (Err f) = Err f

  abbrev pub decoded_memory : Result (List (Table G T)) StoredFault → Memory G T
  decoded_memory (Ok Fs) = cond (is_ok (room_of Fs)) (shelved Fs) M
  decoded_memory (Err f) = M

module _ {G T : Type 0} (model : Model G T) (guard : Code G) (term : Code T) (k : ℕ) (M : Memory G T) where
  -- the bytes of a shelf
  abbrev pub shelf_bytes : List ℕ
  shelf_bytes = bytes_of guard term k (tables_of M)

  -- what writing the shelf into so many bytes answers: the fault of the shelf, the number of bytes needed or written
  abbrev pub encoded : ℕ → Result ℕ StoredFault
  encoded room =
      let size = length shelf_bytes in
      then (map_err Shelf (checked_shelf model M)) (cond (nat_le size room) (Ok size) (Err (TooShort size)))
