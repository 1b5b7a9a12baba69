-- What the exported calls promise, for byte filters.
use Rattle.std.specs.Prelude.{◌≡◌, ℕ, ◌⊎◌, List, length, Option, Result, Vec}
use Rattle.std.specs.declared.alloc.Global.{Global}
use Rattle.range_laws.specs.declared.Range.{Range}
use Rattle.range_laws.specs.declared.RangeTerm.{RangeTerm}
use Rattle.range_laws.specs.Ranges.{ranges}
use Rattle.table.specs.Table.{Table}
use Rattle.table.specs.Check.{checked}
use Rattle.filter.specs.declared.outcome.Outcome.{Outcome}
use Rattle.filter.specs.declared.outcome.TransduceFault.{TransduceFault}
use Rattle.filter.specs.Machines.{machine_of}
use Rattle.filter.specs.Outcomes.{answer_for}
use Rattle.filter.specs.Promises.{after_check, Transduces}
use Rattle.comparing.specs.declared.CompareFault.{CompareFault}
use Rattle.comparing.specs.Comparisons.{Compares}
use Rattle.exports.specs.declared.answer.Answer.{Answer}
use Rattle.exports.specs.Answers.{no_memory, check_answer_lem, transduce_answer_lem, compare_answer_lem, witness_after}

abbrev Filter : Type 0
Filter = Table Range RangeTerm

-- the first fault of the table, or that it is sound
abbrev pub Checks : Filter → Answer → Type 0
Checks F r = (r ≡ no_memory) ⊎ (r ≡ check_answer_lem (checked (ranges 256) F))

-- the answer that is defined, and what it means
pub record Worked (F : Filter) (text before after : List ℕ) (r : Answer) : Type 0 where
  pub result : Result Outcome TransduceFault
  pub is : r ≡ transduce_answer_lem result
  pub defined : result ≡ after_check (checked (ranges 256) F) (answer_for (machine_of (ranges 256) F) text (length before))
  pub means : Transduces (ranges 256) F text before after result

abbrev pub Transduced : Filter → List ℕ → List ℕ → List ℕ → Answer → Type 0
Transduced F text before after r = ((r ≡ no_memory) × (after ≡ before)) ⊎ Worked F text before after r

-- the answer to two tables of which nothing is known, and what the witness holds then
pub record Compared (F H : Filter) (before after : List ℕ) (r : Answer) : Type 0 where
  pub result : Result (Option (Vec ℕ Global)) CompareFault
  pub is : r ≡ compare_answer_lem result before
  pub witness : after ≡ witness_after result before
  pub compares : Compares (ranges 256) F H result
