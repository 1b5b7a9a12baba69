-- Transducing a text by a holding of a shelf: what is answered, and what the output then holds.
use Rattle.std.specs.Prelude.{◌≡◌, ℕ, List, Err, Result}
use Rattle.alphabet.specs.Model.{Model}
use Rattle.table.specs.Results.{map_err}
use Rattle.filter.specs.declared.outcome.Outcome.{Outcome}
use Rattle.filter.specs.declared.outcome.TransduceFault.{TransduceFault}
use Rattle.filter.specs.Promises.{Transduces}
use Rattle.answers.specs.declared.fault.Fault.{Fault}
use Rattle.answers.specs.declared.fault.Fault.TheVariants.{NoHolding as NoneNumbered}
use Rattle.answers.specs.Reports.{transducing_fault}
use Rattle.holdings.specs.Memory.{Memory}
use Rattle.holdings.specs.Check.{checked_shelf}
use Rattle.shelf_law.specs.Holdings.{Has, numbered}
use Rattle.shelf_law.specs.Calls.{Readable}

-- One case for each way the call goes; o is the output as it was. What a filter writes for a text, and where it rejects
-- it, are those of its paths (`Transduces`).
pub data TransducesAt {G T : Type 0} (m : Model G T) (M : Memory G T) (n : ℕ) (text o : List ℕ) : Result Outcome Fault → List ℕ → Type 0 where
  unreadable : (f : Fault) → checked_shelf m M ≡ Err f → TransducesAt m M n text o (Err f) o
  no_holding : Readable m M → (Has M n → ⊥) → TransducesAt m M n text o (Err (NoneNumbered n)) o
  transduced : Readable m M → Has M n → (r : Result Outcome TransduceFault) (after : List ℕ) → Transduces m (numbered M n) text o after r → TransducesAt m M n text o (map_err transducing_fault r) after
