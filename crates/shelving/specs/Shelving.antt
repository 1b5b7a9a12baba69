-- What shelving bodies answers: they were filed in order on a fresh shelf, and its holdings were told apart.
use Rattle.std.specs.Prelude.{◌≡◌, ℕ, ◌+◌, false, List, Ok, Err, vec_items, Result}
use Rattle.alphabet.specs.Model.{Model}
use Rattle.holdings.specs.Memory.{Memory, fits, opened}
use Rattle.shelf_law.specs.Scratch.{Scratch, scratch_of}
use Rattle.shelf_law.specs.History.{Call, Reached}
use Rattle.shelf_law.specs.Law.{Law}
use Rattle.shelving.specs.declared.shelve.Shelved.{Shelved}
use Rattle.shelving.specs.declared.shelve.ShelveFault.{ShelveFault}
use Rattle.shelving.specs.declared.shelve.ShelveFault.TheVariants.{Misfit, NoMemory}
use Rattle.shelving.specs.Runs.{Run, Told}

-- a shelf opened over lists like those of the bodies
abbrev pub fresh : {G T : Type 0} → Memory G T → Memory G T
fresh B = opened B.ledger B.states B.rules B.outputs

-- bodies B were filed in order, with the scratch S, on a shelf that was M
pub record Shelving {G T : Type 0} (m : Model G T) (S : Scratch) (B M : Memory G T) (s : Shelved) : Type 0 where
  -- the collection that came about
  pub collection : Memory G T
  -- every body was filed, in order
  pub run : Run m S B M B.head.holdings (vec_items s.verdicts) collection
  -- the calls are a history, so the law of the collection holds
  pub history : List (Call G T)
  pub reached : Reached m history collection
  pub law : Law m history collection
  -- every two holdings were told apart, in order
  pub told : Told m collection (collection.head.holdings + 1) (collection.head.holdings + 2) (vec_items s.pairs)

-- with so many slots for steps and so many scratch symbols
abbrev pub Shelves : {G T : Type 0} → Model G T → ℕ → ℕ → Memory G T → Result Shelved ShelveFault → Type 0
Shelves m steps symbols B (Ok s) = Shelving m (scratch_of steps symbols) B (fresh B) s
Shelves m steps symbols B (Err Misfit) = fits B ≡ false
Shelves m steps symbols B (Err NoMemory) = Unit {0}
