-- What transducing by a view of a holding answers is what the holding does.
use Rattle.std.proofs.Common.{◌≡◌, ℕ, ◌-◌, ◌<◌, List, length, Result, sym, ap, ◌∙◌, subst}
use Rattle.alphabet.specs.Model.{Model}
use Rattle.alphabet.specs.Laws.{Lawful}
use Rattle.table.specs.Table.{Table}
use Rattle.table.specs.Check.{checked}
use Rattle.table.specs.Results.{map_err}
use Rattle.filter.specs.declared.outcome.Outcome.{Outcome}
use Rattle.filter.specs.declared.outcome.TransduceFault.{TransduceFault}
use Rattle.filter.specs.Machines.{machine_of}
use Rattle.filter.specs.Outcomes.{answer_for, ended, output_after}
use Rattle.filter.specs.Promises.{after_check, Transduces}
use Rattle.filter.proofs.Promises.{transduces}
use Rattle.answers.specs.declared.fault.Fault.{Fault}
use Rattle.answers.specs.Reports.{transducing_fault}
use Rattle.holdings.specs.Memory.{Memory, holding}
use Rattle.shelf_law.specs.Holdings.{Has, numbered}
use Rattle.shelf_law.specs.Calls.{Readable}
use Rattle.shelf_law.specs.Transducing.{TransducesAt, transduced}
use Rattle.holdings.proofs.ReadThrough.{readable_holdings}

module _ {G T : Type 0} (m : Model G T) (laws : Lawful m) (M : Memory G T) (ok : Readable m M) (n i : ℕ) (has : Has M n) (at : n - 1 ≡ i) (within : i < M.head.holdings) (V : Table G T) (is : V ≡ holding M i) where
  same : V ≡ numbered M n
  same = is ∙ ap (holding M) (sym at)

  pub holding_transduces : (text o after : List ℕ) (r : Result Outcome TransduceFault) → r ≡ answer_for (machine_of m V) text (length o) → after ≡ output_after r (ended (machine_of m V) text) o
      → (s : Result Outcome Fault) → s ≡ map_err transducing_fault r → TransducesAt m M n text o s after
  holding_transduces text o after r answer output s e = subst (λ x. TransducesAt m M n text o x after) (sym e) (transduced ok has r after told)
    where
      told : Transduces m (numbered M n) text o after r
      told = transduces m (numbered M n) laws text o after r
          (answer ∙ ap (λ X. answer_for (machine_of m X) text (length o)) same ∙ ap (λ k. after_check k (answer_for (machine_of m (numbered M n)) text (length o))) (sym (ap (λ j. checked m (holding M j)) at ∙ readable_holdings m M ok i within)))
          (output ∙ ap (λ X. output_after r (ended (machine_of m X) text) o) same)
