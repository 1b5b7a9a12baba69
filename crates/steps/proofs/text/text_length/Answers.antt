use Rattle.std.proofs.Common.{◌≡◌, length, ap, arith}
use Rattle.steps.specs.Steps.{text}
use Rattle.steps.proofs.Texts.{text_zero, text_short, text_length_more}
use Rattle.steps.proofs.text.text_length.Goals as goal

pub overflow_add-count : goal.overflow_add-count
overflow_add-count c =
    let more = text_length_more c.args.steps.now c.loop-at.at c.loop-at-test.true c.loop-at.invariant.0 in
    omega (arith, text_short c.args.steps.now c.args.step)

pub loop-at-preserved : goal.loop-at-preserved
loop-at-preserved c =
    let L = c.args.steps.now in
    let more = text_length_more L c.loop-at.at c.loop-at-test.true c.loop-at.invariant.0 in
    let lower = c.step_above-at.ensures.earlier c.loop-at-test.true in
    (omega arith, omega (arith, ap (λ k. length (text L k)) c.step_above-at.ensures.answer))

pub returns : goal.returns
returns c =
    let none : c.loop-at.at ≡ 0 = omega arith in
    omega (arith, ap (λ k. length (text c.args.steps.now k)) none, ap length (text_zero c.args.steps.now))
