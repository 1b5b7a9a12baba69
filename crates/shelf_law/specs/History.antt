-- Histories: a shelf is opened, and one call after another puts filters on it.
use Rattle.std.specs.Prelude.{ℕ, List, [], ◌∷◌, Result}
use Rattle.alphabet.specs.Model.{Model}
use Rattle.table.specs.declared.entries.State.{State}
use Rattle.table.specs.declared.entries.Rule.{Rule}
use Rattle.answers.specs.declared.fault.Fault.{Fault}
use Rattle.holdings.specs.declared.memory.Entry.{Entry}
use Rattle.holdings.specs.Memory.{Memory, opened}
use Rattle.shelf_law.specs.Scratch.{Scratch}
use Rattle.shelf_law.specs.Calls.{Request, Does}

-- One call, as it was made and answered.
pub record Call (G T : Type 0) : Type 0 where
  pub request : Request G T
  pub scratch : Scratch
  -- the memory that it found
  pub before : Memory G T
  pub answer : Result ℕ Fault
  -- the memory that it left
  pub after : Memory G T

abbrev pub call_of : {G T : Type 0} → Request G T → Scratch → Memory G T → Result ℕ Fault → Memory G T → Call G T
call_of q S M r A = record { request = q; scratch = S; before = M; answer = r; after = A }

-- the memory that a history leaves, with its last call first
pub data Reached {G T : Type 0} (m : Model G T) : List (Call G T) → Memory G T → Type 0 where
  -- a shelf is opened over lists of any length and contents
  opening : (ledger : List Entry) (states : List State) (rules : List (Rule G)) (outputs : List T) → Reached m [] (opened ledger states rules outputs)
  -- one more call finds the memory as the one before left it; its request and its scratch may be anything
  calling : {h : List (Call G T)} (c : Call G T) → Reached m h c.before → Does m c.scratch c.before c.request c.answer c.after → Reached m (c ∷ h) c.after
