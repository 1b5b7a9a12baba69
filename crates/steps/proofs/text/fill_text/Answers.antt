use Rattle.std.proofs.Common.{◌≡◌, ◌+◌, ◌-◌, ◌<◌, ◌++◌, length, drop, set, sym, ap, ◌∙◌, arith}
use Rattle.steps.specs.Steps.{at, text}
use Rattle.steps.proofs.Texts.{text_short, text_length_more, text_filled}
use Rattle.steps.proofs.text.fill_text.Goals as goal

pub loop-left-preserved : goal.loop-left-preserved
loop-left-preserved c =
    let L = c.args.steps.now in
    let i = c.loop-left.at in
    let j = c.loop-left.left - 1 in
    let above : 0 < i = omega (arith, text_short L i) in
    let more = text_length_more L i above c.loop-left.invariant.0 in
    let up = c.step_above-at.ensures.answer in
    let lower = c.step_above-at.ensures.earlier above in
    let back : j + 1 ≡ c.loop-left.left = omega arith in
    let filled = text_filled L i j c.loop-left.witness (text L c.args.step ++ drop c.args.count c.args.witness.now) above c.loop-left.invariant.0 (omega arith) (omega arith) (rw back c.loop-left.invariant.2) in
    (omega arith, omega (arith, ap (λ k. length (text L k)) up), filled ∙ ap (λ k. text L k ++ drop j (set c.loop-left.witness j (at L i).symbol)) (sym up))
