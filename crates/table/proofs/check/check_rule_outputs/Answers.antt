use Rattle.std.proofs.Common.{◌≡◌, ◌+◌, ◌-◌, take, drop, sym, ap, ◌∙◌, arith}
use Rattle.table.specs.Check.{each, check_output_lem}
use Rattle.table.proofs.Outputs.{outputs_go_on, total_more}
use Rattle.table.proofs.check.check_rule_outputs.Goals as goal

pub loop-rule-preserved : goal.loop-rule-preserved
loop-rule-preserved g c =
    let m = g.A.Alphabet.model in
    let r = c.rule-item.result in
    let k = c.loop-rule.from in
    let ts = c.args.outputs.now in
    let size : (k + r.outputs) - k ≡ r.outputs = omega arith in
    let more = total_more m c.args.rules.now ts k c.loop-rule.rule-index r c.loop-rule-test.true c.rule-item.is in
    let e = ap (λ n. each (check_output_lem m r.guard) k (take n (drop k ts))) (sym size) ∙ sym c.check_outputs.ensures ∙ c.in_ok-check_outputs.was in
    (omega arith, sym (outputs_go_on m c.args.rules.now ts k c.loop-rule.rule-index r c.loop-rule-test.true c.rule-item.is e) ∙ c.loop-rule.invariant.1)
