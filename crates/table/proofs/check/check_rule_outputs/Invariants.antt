use Rattle.std.proofs.Common.{◌≡◌, ◌+◌, length, drop}
use Rattle.table.specs.Table.{rule_total_of}
use Rattle.table.specs.Check.{check_rule_outputs_lem}
use Rattle.table.proofs.check.check_rule_outputs.Given as goal

abbrev pub invariant-loop-rule : goal.invariant-loop-rule
invariant-loop-rule g l =
    let m = g.A.Alphabet.model in
    (length l.outputs ≡ l.from + rule_total_of (drop l.rule-index l.rules))
    × (check_rule_outputs_lem m l.from (drop l.rule-index l.rules) (drop l.from l.outputs) ≡ check_rule_outputs_lem m l.finals l.rules (drop l.finals l.outputs))
