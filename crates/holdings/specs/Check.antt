-- Whether a shelf can be read: head and ledger fit, and every holding is sound.
use Rattle.std.specs.Prelude.{ℕ, ◌+◌, cond, List, [], ◌∷◌, Ok, Err, Result}
use Rattle.alphabet.specs.Model.{Model}
use Rattle.table.specs.Check.{checked}
use Rattle.table.specs.Results.{map_err}
use Rattle.holdings.specs.declared.memory.Entry.{Entry}
use Rattle.answers.specs.declared.fault.Fault.{Fault}
use Rattle.answers.specs.declared.fault.Fault.TheVariants.{Misfit, Unsound}
use Rattle.holdings.specs.Memory.{Memory, in_use, fits, holding}

-- the first fault of two
abbrev pub next : Result Unit Fault → Result Unit Fault → Result Unit Fault
next (Ok x) later = later
next (Err f) later = Err f

module _ {G T : Type 0} (m : Model G T) (M : Memory G T) where
  -- the lowest unsound holding; i stand before the first of the list, and holdings count from 1
  abbrev pub check_from : ℕ → List Entry → Result Unit Fault
  check_from i [] = Ok tt
  check_from i (e ∷ es) = next (map_err (Unsound (i + 1)) (checked m (holding M i))) (check_from (i + 1) es)

  abbrev pub checked_shelf : Result Unit Fault
  checked_shelf = cond (fits M) (check_from 0 (in_use M)) (Err Misfit)
