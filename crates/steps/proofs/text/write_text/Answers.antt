use Rattle.std.proofs.Common.{arith}
use Rattle.std.proofs.lemmas.Bool.Decides.{nat_tests}
use Rattle.steps.proofs.Texts.{text_past}
use Rattle.steps.proofs.text.write_text.Goals as goal

pub returns-then-step-steps : goal.returns-then-step-steps
returns-then-step-steps c =
    let e = text_past c.args.steps.now c.args.step c.if-step-steps.true in
    record { answer = grind (arith, nat_tests); witness = grind (arith, nat_tests) }
