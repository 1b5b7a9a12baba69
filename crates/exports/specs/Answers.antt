-- What the exported calls answer, as numbers.
use Rattle.std.specs.Prelude.{ℕ, cond, List, length, Some, None, Ok, Err, vec_items, Option, Result, Vec, nat_le}
use Rattle.std.specs.declared.alloc.Global.{Global}
use Rattle.alphabet.specs.declared.cause.Cause.{Cause}
use Rattle.alphabet.specs.Causes.{cause_number}
use Rattle.table.specs.declared.fault.FaultCode.{FaultCode}
use Rattle.table.specs.Faults.{code_of}
use Rattle.table.specs.Check.{Checked}
use Rattle.filter.specs.declared.outcome.Outcome.{Outcome}
use Rattle.filter.specs.declared.outcome.Outcome.TheVariants.{Written, Rejected}
use Rattle.filter.specs.declared.outcome.TransduceFault.{TransduceFault}
use Rattle.filter.specs.Outcomes.{transduce_code}
use Rattle.steps.specs.Steps.{written_to}
use Rattle.comparing.specs.declared.CompareFault.{CompareFault}
use Rattle.comparing.specs.declared.CompareFault.TheVariants.{First, Second, NoMemory}
use Rattle.exports.specs.declared.answer.Answer.{Answer}

abbrev pub answer : ℕ → ℕ → ℕ → ℕ → Answer
answer k a b c = record { kind = k; first = a; second = b; third = c }

abbrev pub no_memory : Answer
no_memory = answer 3 0 0 0

-- the number of a cause, or 0
abbrev pub cause_of_lem : Option Cause → ℕ
cause_of_lem (Some c) = cause_number c
cause_of_lem None = 0

-- a fault's number, place and cause
abbrev pub refusal : ℕ → FaultCode → Answer
refusal k c = answer k c.number c.place (cause_of_lem c.cause)

-- sound, or the first fault
abbrev pub check_answer_lem : Checked → Answer
check_answer_lem (Ok x) = answer 0 0 0 0
check_answer_lem (Err f) = refusal 2 (code_of f)

-- the state and the number of symbols written, or the position of the rejection, or the fault
abbrev pub transduce_answer_lem : Result Outcome TransduceFault → Answer
transduce_answer_lem (Ok (Written q n)) = answer 0 q n 0
transduce_answer_lem (Ok (Rejected n)) = answer 1 n 0 0
transduce_answer_lem (Err f) = refusal 2 (transduce_code f)

-- a text told by a witness: its length, and whether the witness has room
abbrev pub tell_answer : List ℕ → List ℕ → Answer
tell_answer t w = cond (nat_le (length t) (length w)) (answer 1 (length t) 0 0) (answer 5 (length t) 0 0)

-- equivalent, or a distinguishing text, or why there is no comparison
abbrev pub compare_answer_lem : Result (Option (Vec ℕ Global)) CompareFault → List ℕ → Answer
compare_answer_lem (Ok None) w = answer 0 0 0 0
compare_answer_lem (Ok (Some v)) w = tell_answer (vec_items v) w
compare_answer_lem (Err (First f)) w = refusal 2 (code_of f)
compare_answer_lem (Err (Second f)) w = refusal 4 (code_of f)
compare_answer_lem (Err NoMemory) w = no_memory

-- the witness afterwards: it begins with a distinguishing text for which it has room
abbrev pub witness_after : Result (Option (Vec ℕ Global)) CompareFault → List ℕ → List ℕ
witness_after (Ok None) w = w
witness_after (Ok (Some v)) w = written_to (vec_items v) w
witness_after (Err f) w = w
