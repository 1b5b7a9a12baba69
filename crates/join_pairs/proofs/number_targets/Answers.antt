use Rattle.std.proofs.Common.{◌≡◌, ◌<◌, length, get_or, ap, ◌∙◌, arith, rules}
use Rattle.queue.specs.Held.{entries, room}
use Rattle.std.proofs.lemmas.Result.{err_from_is_err_and}
use Rattle.join_laws.specs.Pairs.{Pair, place, met}
use Rattle.join_laws.proofs.Places.{met_in}
use Rattle.join_pairs.proofs.Meetings.{entries_fit, partly_read, partly_more, partly_over, partly_done}
use Rattle.join_pairs.proofs.number_targets.Goals as goal

pub returns-in_err-rule : goal.returns-in_err-rule
returns-in_err-rule g c =
    let P₀ = entries c.args.queue.now in
    let rs = c.args.rules.now in
    let I = c.loop-rule.invariant in
    let r = get_or c.loop-rule.rules c.loop-rule.rule-index c.rule-item.result in
    let h : c.loop-rule.rule-index < length rs = omega (arith, c.loop-rule-test.true) in
    let read = partly_read c.args.first P₀ rs c.loop-rule.rule-index (entries c.loop-rule.queue) c.loop-rule.rules I.0 h r (ap (λ x. get_or c.loop-rule.rules c.loop-rule.rule-index x) c.rule-item.is) in
    let over = c.in_err-rule.ensures.meets in
    let p = err_from_is_err_and c.from_residual.result c.from_residual.ensures.1 in
    record {
      numbers = rw p.1 (partly_over c.args.first P₀ rs c.loop-rule.rule-index (entries c.loop-rule.queue) c.loop-rule.rules I.0 h r read (room c.args.queue.now) (omega (arith, over, I.1)));
      taken = c.meet.ensures.taken ∙ I.2;
      room = c.meet.ensures.room ∙ I.1;
    }

pub overflow_cast-rule : goal.overflow_cast-rule
overflow_cast-rule g c =
    let m = c.in_ok-rule.ensures.meets in
    let P = entries c.loop-rule.queue in
    let x : Pair = (c.args.first, (get_or c.loop-rule.rules c.loop-rule.rule-index c.rule-item.result).next) in
    let known = met_in P x in
    let number : c.in_ok-rule.field-0 ≡ place (met P x) x = m.1 ∙ ap (λ l. place l x) m.0 in
    let long = ap length m.0 in
    let low : c.in_ok-rule.field-0 < 65536 = omega (arith, known, number, long, m.2, c.loop-rule.invariant.1, c.requires) in
    search rules

pub loop-rule-preserved : goal.loop-rule-preserved
loop-rule-preserved g c =
    let P₀ = entries c.args.queue.now in
    let rs = c.args.rules.now in
    let I = c.loop-rule.invariant in
    let r = get_or c.loop-rule.rules c.loop-rule.rule-index c.rule-item.result in
    let P = entries c.loop-rule.queue in
    let x : Pair = (c.args.first, r.next) in
    let h : c.loop-rule.rule-index < length rs = omega (arith, c.loop-rule-test.true) in
    let read = partly_read c.args.first P₀ rs c.loop-rule.rule-index P c.loop-rule.rules I.0 h r (ap (λ x. get_or c.loop-rule.rules c.loop-rule.rule-index x) c.rule-item.is) in
    let m = c.in_ok-rule.ensures.meets in
    let number : c.in_ok-rule.field-0 ≡ place (met P x) x = m.1 ∙ ap (λ l. place l x) m.0 in
    let more = partly_more c.args.first P₀ rs c.loop-rule.rule-index P c.loop-rule.rules I.0 h r read in
    (rw (m.0, number) more, c.meet.ensures.room ∙ I.1, c.meet.ensures.taken ∙ I.2)

pub returns : goal.returns
returns g c =
    let I = c.loop-rule.invariant in
    let d = partly_done c.args.first (entries c.args.queue.now) c.args.rules.now c.loop-rule.rule-index (entries c.loop-rule.queue) c.loop-rule.rules I.0 (omega (arith, c.loop-rule-test.false)) in
    record { numbers = (d.0, d.1, omega (arith, I.1, entries_fit c.loop-rule.queue)); taken = I.2; room = I.1 }
