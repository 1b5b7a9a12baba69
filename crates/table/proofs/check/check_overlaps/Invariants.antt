use Rattle.std.proofs.Common.{◌≡◌, false, [], get_or, take, drop, Ok}
use Rattle.table.specs.declared.entries.Rule.{Rule}
use Rattle.table.specs.Check.{clashes, check_overlaps_lem}
use Rattle.table.proofs.check.check_overlaps.Given as goal

-- no rule before `later` clashes with an earlier one
abbrev pub invariant-pairs : goal.invariant-pairs
invariant-pairs g l =
    let m = g.A.Alphabet.model in
    (l.found ≡ Ok tt) × (check_overlaps_lem m l.later (take l.later l.rules) (drop l.later l.rules) ≡ check_overlaps_lem m 0 [] l.rules)

-- nor does `later` with one before `earlier`
abbrev pub invariant-loop-earlier : goal.invariant-loop-earlier
invariant-loop-earlier g l =
    (l.found ≡ Ok tt) × ((d : Rule g.row.A-Guard.Denot) → clashes g.A.Alphabet.model (get_or l.rules l.later d) (take l.earlier l.rules) ≡ false)
