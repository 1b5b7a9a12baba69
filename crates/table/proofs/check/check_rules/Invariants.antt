use Rattle.std.proofs.Common.{◌≡◌, drop}
use Rattle.table.specs.Check.{each, check_rule_lem}
use Rattle.table.proofs.check.check_rules.Given as goal

abbrev pub invariant-loop-number : goal.invariant-loop-number
invariant-loop-number g l =
    let f = check_rule_lem g.A.Alphabet.model l.states in
    each f l.number (drop l.number l.rules) ≡ each f 0 l.rules
