-- The calls that put filters on a shelf: what they ask for, what they answer, and what they leave there.
use Rattle.std.specs.Prelude.{◌≡◌, ℕ, Ok, Err, Result}
use Rattle.alphabet.specs.Model.{Model}
use Rattle.table.specs.declared.fault.TableFault.{TableFault}
use Rattle.table.specs.Table.{Table}
use Rattle.table.specs.Check.{checked}
use Rattle.answers.specs.declared.fault.Fault.{Fault}
use Rattle.answers.specs.declared.fault.Fault.TheVariants.{Draft, TooLarge, NoHolding as NoneNumbered}
use Rattle.join_laws.specs.Joined.{joined}
use Rattle.join_laws.specs.Theorems.{Limited}
use Rattle.holdings.specs.Memory.{Memory}
use Rattle.holdings.specs.Check.{checked_shelf}
use Rattle.shelf_law.specs.Holdings.{Has, numbered}
use Rattle.shelf_law.specs.Scratch.{Scratch, Lists, HeldBy}
use Rattle.shelf_law.specs.Placing.{Placing}

-- What a call asks for: to file a draft, or to join the holdings of two numbers in lists of these lengths.
pub data Request (G T : Type 0) : Type 0 where
  Filing : Table G T → Request G T
  Joining : ℕ → ℕ → Lists → Request G T

module _ {G T : Type 0} (m : Model G T) (M : Memory G T) where
  -- the shelf can be read: it fits, and every holding is sound
  abbrev pub Readable : Type 0
  Readable = checked_shelf m M ≡ Ok tt

  -- the joined filter of the holdings of two numbers
  abbrev pub joined_at : ℕ → ℕ → Table G T
  joined_at i j = joined m (numbered M i) (numbered M j)

-- One case for each way a call goes, in the order in which faults are looked for. A refusal leaves the memory as it was.
pub data Does {G T : Type 0} (m : Model G T) (S : Scratch) (M : Memory G T) : Request G T → Result ℕ Fault → Memory G T → Type 0 where
  -- the shelf cannot be read
  unreadable : (q : Request G T) (f : Fault) → checked_shelf m M ≡ Err f → Does m S M q (Err f) M
  -- the draft is unsound
  unsound : (F : Table G T) (f : TableFault) → Readable m M → checked m F ≡ Err f → Does m S M (Filing F) (Err (Draft f)) M
  -- a number has no holding
  no_first : (i j : ℕ) (L : Lists) → Readable m M → (Has M i → ⊥) → Does m S M (Joining i j L) (Err (NoneNumbered i)) M
  no_second : (i j : ℕ) (L : Lists) → Readable m M → Has M i → (Has M j → ⊥) → Does m S M (Joining i j L) (Err (NoneNumbered j)) M
  -- the joined filter is over a limit or over the lists
  too_large : (i j : ℕ) (L : Lists) → Readable m M → Has M i → Has M j → (Limited (joined_at m M i j) → HeldBy L (joined_at m M i j) → ⊥)
      → Does m S M (Joining i j L) (Err TooLarge) M
  -- the filter is put on the shelf
  files : (F : Table G T) (r : Result ℕ Fault) (A : Memory G T) → Readable m M → checked m F ≡ Ok tt → Placing m S M F r A → Does m S M (Filing F) r A
  joins : (i j : ℕ) (L : Lists) (r : Result ℕ Fault) (A : Memory G T) → Readable m M → Has M i → Has M j → Limited (joined_at m M i j) → HeldBy L (joined_at m M i j)
      → Placing m S M (joined_at m M i j) r A → Does m S M (Joining i j L) r A
