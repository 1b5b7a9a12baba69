use Rattle.std.proofs.Common.{◌≡◌, ◌+◌, drop}
use Rattle.table.specs.Check.{each, check_output_lem}
use Rattle.table.proofs.check.check_outputs.Given as goal

abbrev pub invariant-loop-k : goal.invariant-loop-k
invariant-loop-k g l =
    let f = check_output_lem g.A.Alphabet.model l.guard in
    each f (l.from + l.k) (drop l.k l.terms) ≡ each f l.from l.terms
