use Rattle.std.proofs.Common.{◌+◌, ◌*◌, ◌≤◌, length, refl, ap, mul-le-mul, arith}
use Rattle.table.specs.Table.{table_of}
use Rattle.table.proofs.Soundness.{sound_from_checked}
use Rattle.steps.proofs.Placing.{product_most}
use Rattle.judging.proofs.Widths.{longest_few}
use Rattle.judging.proofs.frame.frame_of.Goals as goal

pub overflow_mul-result : goal.overflow_mul-result
overflow_mul-result g c =
    let S = sound_from_checked g.A.Alphabet.model g.A.Alphabet.laws (table_of c.args.left.now.draft) c.args.left.now.sound in
    let R = sound_from_checked g.A.Alphabet.model g.A.Alphabet.laws (table_of c.args.right.now.draft) c.args.right.now.sound in
    let a = longest_few g.A.Alphabet.model (table_of c.args.left.now.draft) S in
    let b = longest_few g.A.Alphabet.model (table_of c.args.right.now.draft) R in
    let few : c.steps_needed.result + 1 ≤ 8321 = omega (arith, c.steps_needed.ensures, product_most (length c.args.left.now.draft.states.now) (length c.args.right.now.draft.states.now) S.few_states R.few_states) in
    let narrow : c.max-width.result ≤ 32 = omega arith in
    omega (arith, mul-le-mul few narrow)

pub returns : goal.returns
returns g c =
    let S = sound_from_checked g.A.Alphabet.model g.A.Alphabet.laws (table_of c.args.left.now.draft) c.args.left.now.sound in
    let R = sound_from_checked g.A.Alphabet.model g.A.Alphabet.laws (table_of c.args.right.now.draft) c.args.right.now.sound in
    let a = longest_few g.A.Alphabet.model (table_of c.args.left.now.draft) S in
    let b = longest_few g.A.Alphabet.model (table_of c.args.right.now.draft) R in
    record {
      framed = record {
        left = refl;
        right = refl;
        left_first = c.final_total.ensures.total;
        right_first = c.final_total-2.ensures.total;
        few_left = S.few_states;
        few_right = R.few_states;
        low = omega arith;
        most = omega arith;
        wide_left = omega arith;
        wide_right = omega arith;
        room = ap (λ n. (n + 1) * c.max-width.result) c.steps_needed.ensures;
      };
      width = omega arith;
    }
