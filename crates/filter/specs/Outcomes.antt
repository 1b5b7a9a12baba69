-- What walking and transducing answer, and what they leave in the output.
use Rattle.std.specs.Prelude.{ℕ, ◌+◌, ◌≤◌, cond, List, [], ◌∷◌, ◌++◌, length, drop, Some, None, Ok, Err, Option, Result, nat_le, slice_set}
use Rattle.machine.specs.Machine.{Machine, run, and_then}
use Rattle.machine.specs.Walk.{position}
use Rattle.table.specs.declared.fault.FaultCode.{FaultCode}
use Rattle.table.specs.Faults.{code_of}
use Rattle.filter.specs.declared.outcome.Outcome.{Outcome}
use Rattle.filter.specs.declared.outcome.Outcome.TheVariants.{Written, Rejected}
use Rattle.filter.specs.declared.outcome.TransduceFault.{TransduceFault}
use Rattle.filter.specs.declared.outcome.TransduceFault.TheVariants.{Unsound, LongText, ShortOutput}

-- a list with ws written into it from place n on, as far as it reaches
abbrev pub put : ℕ → List ℕ → List ℕ → List ℕ
put n [] o = o
put n (w ∷ ws) o = put (n + 1) ws (slice_set o n w)

-- the state reached and the number of symbols written, or the position of the rejection
abbrev pub end_of : ℕ → Option (ℕ × List ℕ) → Result (ℕ × ℕ) ℕ
end_of position None = Err position
end_of position (Some r) = Ok (r.0, length r.1)

abbrev pub walked : Machine → List ℕ → ℕ → Result (ℕ × ℕ) ℕ
walked m u q = end_of (position m u q) (run m u q)

-- no more symbols than n are written
abbrev pub CountWithin : ℕ → Result (ℕ × ℕ) ℕ → Type 0
CountWithin n (Ok r) = r.1 ≤ n
CountWithin n (Err e) = Unit {0}

-- the place behind a final output that begins at n, or none
abbrev pub behind : ℕ → Option (List ℕ) → Option ℕ
behind n None = None
behind n (Some y) = Some (n + length y)

-- the output with a final output written from place n on, if there is one
abbrev pub finished : ℕ → Option (List ℕ) → List ℕ → List ℕ
finished n None o = o
finished n (Some y) o = put n y o

-- the number and the values of each fault
abbrev pub transduce_code : TransduceFault → FaultCode
transduce_code (Unsound f) = code_of f
transduce_code LongText = record { number = 3; place = 1; cause = None }
transduce_code (ShortOutput n) = record { number = 16; place = n; cause = None }

-- the state that a text reaches, and all that is written for it, final output included; or none where it is rejected
abbrev pub closed : ℕ → List ℕ → Option (List ℕ) → Option (ℕ × List ℕ)
closed q x None = None
closed q x (Some y) = Some (q, x ++ y)

abbrev pub ended : Machine → List ℕ → Option (ℕ × List ℕ)
ended m u = and_then (run m u 0) (λ r. closed r.0 r.1 (m.final r.0))

-- what is answered where r is the end of the text: it is written if the output has room
abbrev pub answer_at : ℕ → ℕ → Option (ℕ × List ℕ) → Result Outcome TransduceFault
answer_at position room None = Ok (Rejected position)
answer_at position room (Some r) = cond (nat_le (length r.1) room) (Ok (Written r.0 (length r.1))) (Err (ShortOutput (length r.1)))

-- what transducing a text answers: at most 1,048,576 symbols are taken
abbrev pub answer_for : Machine → List ℕ → ℕ → Result Outcome TransduceFault
answer_for m u room = cond (nat_le (length u) 1048576) (answer_at (position m u 0) room (ended m u)) (Err LongText)

-- the output afterwards: only where the text is accepted and all fits is it written to, from its front
abbrev pub output_after : Result Outcome TransduceFault → Option (ℕ × List ℕ) → List ℕ → List ℕ
output_after (Ok (Written q n)) (Some r) out = r.1 ++ drop n out
output_after (Ok (Written q n)) None out = out
output_after (Ok (Rejected n)) e out = out
output_after (Err f) e out = out
