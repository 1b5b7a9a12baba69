use Rattle.std.proofs.Common.{◌≡◌, ◌+◌, ◌≤◌, length, drop}
use Rattle.filter.specs.Machines.{values_of}
use Rattle.filter.specs.Outcomes.{put}
use Rattle.filter.proofs.walk.emit.Given as goal

abbrev pub invariant-loop-term : goal.invariant-loop-term
invariant-loop-term g l =
    let values = values_of g.A.Alphabet.model in
    (l.place ≤ l.at + l.term-index)
    × (l.place + length (values (drop l.term-index l.terms) l.symbol) ≡ l.at + length (values l.terms l.symbol))
    × (put l.place (values (drop l.term-index l.terms) l.symbol) l.out ≡ put l.at (values l.terms l.symbol) l.initial.out)
