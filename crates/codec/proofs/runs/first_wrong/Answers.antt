use Rattle.std.proofs.Common.{◌≡◌, ℕ, ◌+◌, ◌-◌, drop, Option, sym, ap, ◌∙◌, arith}
use Rattle.codec_laws.specs.Lists.{wrong_from}
use Rattle.codec.proofs.Turns.{next_at, wrong_found, wrong_none}
use Rattle.codec.proofs.runs.first_wrong.Goals as goal

pub returns-in-Some : goal.returns-in-Some
returns-in-Some g c =
    let at = c.loop-i.at in
    let size : (at + c.width-width.result) - at ≡ g.R.Record.code.width = omega (arith, c.width-width.ensures) in
    sym (wrong_found g.R.Record.code c.args.file.now at c.args.count c.loop-i.i _ c.loop-i-test.true size c.in-Some.place (sym c.in-Some.ensures))
    ∙ c.loop-i.invariant.1

pub loop-i-preserved : goal.loop-i-preserved
loop-i-preserved g c =
    let code = g.R.Record.code in
    let at = c.loop-i.at in
    let w = c.width-width.result in
    let size : (at + w) - at ≡ code.width = omega (arith, c.width-width.ensures) in
    let same : (at + w) - at ≡ w = omega arith in
    let rest : ℕ → Option ℕ = λ k. wrong_from code (at + k) (c.args.count - (c.loop-i.i + 1)) (drop (at + k) c.args.file.now) in
    let next = next_at c.loop-i.i code.width in (
      omega arith,
      ap rest (sym same)
          ∙ sym (wrong_none code c.args.file.now at c.args.count c.loop-i.i _ c.loop-i-test.true size (sym c.wrong.ensures ∙ c.in_default.is))
          ∙ c.loop-i.invariant.1,
    )
