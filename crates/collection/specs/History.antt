-- Histories: a shelf is opened, and one call after another puts filters on it.
use Rattle.std.specs.Prelude.{◌≡◌, Bool, List, [], ◌∷◌, Some, None, Ok, Err, Option}
use Rattle.alphabet.specs.Model.{Model}
use Rattle.table.specs.declared.entries.State.{State}
use Rattle.table.specs.declared.entries.Rule.{Rule}
use Rattle.table.specs.Table.{Table}
use Rattle.table.specs.Sound.{Sound}
use Rattle.holdings.specs.declared.memory.Entry.{Entry}
use Rattle.answers.specs.declared.fault.Fault.{Fault}
use Rattle.holdings.specs.Memory.{Memory, opened}
use Rattle.holdings.specs.Check.{checked_shelf}
use Rattle.collection.specs.Filing.{Answer, Unreadable, NoFilter, Filing}

-- One call, as it was made and answered.
pub record Call (G T : Type 0) : Type 0 where
  -- the memory that it found
  pub before : Memory G T
  -- the filter to put on the shelf, or none where there is no sound one
  pub filter : Option (Table G T)
  -- whether its scratch is enough to compare the filter with a holding
  pub enough : Table G T → Table G T → Bool
  pub answer : Answer
  -- the memory that it left
  pub after : Memory G T

-- the call is answered as it must be
pub record Does {G T : Type 0} (m : Model G T) (c : Call G T) : Type 0 where
  -- a shelf that cannot be read is refused, and left as it was
  pub unreadable : (f : Fault) → checked_shelf m c.before ≡ Err f → (c.answer ≡ Unreadable) × (c.after ≡ c.before)
  -- so is a call without a filter
  pub no_filter : checked_shelf m c.before ≡ Ok tt → c.filter ≡ None → (c.answer ≡ NoFilter) × (c.after ≡ c.before)
  -- a filter is sound, and filed
  pub sound : (F : Table G T) → checked_shelf m c.before ≡ Ok tt → c.filter ≡ Some F → Sound m F
  pub filing : (F : Table G T) → checked_shelf m c.before ≡ Ok tt → c.filter ≡ Some F → Filing m c.enough c.before F c.answer c.after

-- the memory that a history leaves, with its last call first
pub data Reached {G T : Type 0} (m : Model G T) : List (Call G T) → Memory G T → Type 0 where
  -- a shelf is opened over lists of any length and contents
  opening : (ledger : List Entry) (states : List State) (rules : List (Rule G)) (outputs : List T) → Reached m [] (opened ledger states rules outputs)
  -- one more call finds the memory as the one before left it
  calling : {h : List (Call G T)} (c : Call G T) → Reached m h c.before → Does m c → Reached m (c ∷ h) c.after
