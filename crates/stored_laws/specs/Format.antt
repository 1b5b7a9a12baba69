-- A stored shelf: the bytes of tables, and what bytes mean.
use Rattle.std.specs.Prelude.{ℕ, ◌+◌, ◌*◌, Bool, cond, List, [], ◌∷◌, ◌++◌, map, length, drop, Some, None, Ok, Err, sum_by, Option, Result, ◌==◌, nat_le}
use Rattle.std.specs.List.{flat_map}
use Rattle.table.specs.Table.{Table}
use Rattle.holdings.specs.declared.memory.Entry.{Entry}
use Rattle.codec_laws.specs.Code.{Code}
use Rattle.codec_laws.specs.Numbers.{at}
use Rattle.codec_laws.specs.Entries.{entry_code, state_code, rule_code}
use Rattle.codec_laws.specs.Lists.{or_else, image_all, records, wrong_from}
use Rattle.stored_laws.specs.declared.StoredFault.{StoredFault}
use Rattle.stored_laws.specs.declared.StoredFault.TheVariants.{CutShort, OtherAlphabet, TooManyHoldings, LeftOver, BadByte}

-- the counts of a table
abbrev pub counts_of : {G T : Type 0} → Table G T → Entry
counts_of F = record { states = length F.states; rules = length F.rules; outputs = length F.outputs }

-- where the rules, the outputs and the end of a body lie behind its beginning
abbrev pub to_rules : Entry → ℕ
to_rules e = e.states * 3

abbrev pub to_outputs_lem : Entry → ℕ
to_outputs_lem e = e.states * 3 + e.rules * 14

abbrev pub body_size : Entry → ℕ
body_size e = e.states * 3 + e.rules * 14 + e.outputs * 5

-- the first of two answers that is a fault
abbrev pub then : {X : Type 0} → Result Unit StoredFault → Result X StoredFault → Result X StoredFault
then (Ok x) later = later
then (Err f) later = Err f

-- the fault, unless the test is passed
abbrev pub unless : Bool → StoredFault → Result Unit StoredFault
unless b f = cond b (Ok tt) (Err f)

abbrev pub none_wrong : Option ℕ → Result Unit StoredFault
none_wrong None = Ok tt
none_wrong (Some p) = Err (BadByte p)

-- the contents of a file: the counts of each body, how many bytes stand before the bodies, and how many there should be
abbrev pub contents : List ℕ → List Entry
contents file = records entry_code (at file 1) (drop 2 file)

abbrev pub bodies_at : List ℕ → ℕ
bodies_at file = 2 + at file 1 * 6

abbrev pub file_size : List ℕ → ℕ
file_size file = bodies_at file + sum_by body_size (contents file)

module _ {T : Type 0} (term : Code T) (file : List ℕ) where
  -- the place of the first wrong byte in the outputs of bodies, of which the first begins at the place p
  abbrev pub wrong_in : ℕ → List Entry → Option ℕ
  wrong_in p [] = None
  wrong_in p (e ∷ es) = or_else (wrong_from term (p + to_outputs_lem e) e.outputs (drop (p + to_outputs_lem e) file)) (wrong_in (p + body_size e) es)

  -- the first fault of a file that should be of the alphabet k
  abbrev pub checked_file : ℕ → Result Unit StoredFault
  checked_file k =
      then (unless (nat_le 2 (length file)) (CutShort (length file)))
      (then (unless (at file 0 == k) OtherAlphabet)
      (then (unless (nat_le (at file 1) 16) TooManyHoldings)
      (then (unless (nat_le (bodies_at file) (length file)) (CutShort (length file)))
      (then (unless (nat_le (file_size file) (length file)) (CutShort (length file)))
      (then (unless (nat_le (length file) (file_size file)) (LeftOver (file_size file)))
      (none_wrong (wrong_in (bodies_at file) (contents file))))))))

module _ {G T : Type 0} (guard : Code G) (term : Code T) where
  -- a body: states, rules, outputs
  abbrev pub body_of : Table G T → List ℕ
  body_of F = image_all state_code F.states ++ (image_all (rule_code guard) F.rules ++ image_all term F.outputs)

  -- the bytes of tables: the alphabet's byte, the number of tables, the counts of each table, the bodies
  abbrev pub bytes_of : ℕ → List (Table G T) → List ℕ
  bytes_of k Fs = k ∷ length Fs ∷ (image_all entry_code (map counts_of Fs) ++ flat_map body_of Fs)

  -- the table that a body means which begins at the place p of a file
  abbrev pub table_in : List ℕ → ℕ → Entry → Table G T
  table_in file p e = record {
    states = records state_code e.states (drop p file);
    rules = records (rule_code guard) e.rules (drop (p + to_rules e) file);
    outputs = records term e.outputs (drop (p + to_outputs_lem e) file);
  }

  abbrev pub tables_in : List ℕ → ℕ → List Entry → List (Table G T)
  tables_in file p [] = []
  tables_in file p (e ∷ es) = table_in file p e ∷ tables_in file (p + body_size e) es

  -- what a file of the alphabet k means: its tables, or its first fault
  abbrev pub parsed : ℕ → List ℕ → Result (List (Table G T)) StoredFault
  parsed k file = then (checked_file term file k) (Ok (tables_in file (bodies_at file) (contents file)))
