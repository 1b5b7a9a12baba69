use Rattle.std.proofs.Common.{◌≡◌, drop}
use Rattle.table.specs.Check.{each, check_final_lem}
use Rattle.table.proofs.check.check_finals.Given as goal

abbrev pub invariant-loop-number : goal.invariant-loop-number
invariant-loop-number g l =
    let f = check_final_lem g.A.Alphabet.model in
    each f l.number (drop l.number l.terms) ≡ each f 0 l.terms
