use Rattle.std.proofs.Common.{◌≡◌, length, Ok, sym, ap, ◌∙◌}
use Rattle.table.specs.Check.{checked}
use Rattle.table.specs.Results.{dropped}
use Rattle.table.specs.Table.{table_of}
use Rattle.filter.specs.Machines.{machine_of}
use Rattle.filter.specs.Outcomes.{answer_for}
use Rattle.filter.specs.Promises.{after_check}
use Rattle.filter.proofs.Promises.{transduces, agrees_if_checked}
use Rattle.filter.proofs.transducing.transduce.Goals as goal

pub returns : goal.returns
returns g c =
    let m = g.A.Alphabet.model in
    let F = table_of c.args.draft.now in
    let sound : checked m F ≡ Ok tt = sym c.new.ensures.answer ∙ ap dropped c.in_ok-filter.was in
    let same = ap table_of (rw c.in_ok-filter.was at c.new.ensures.draft) in
    let answer = (rw same at c.transduce_sound.ensures.answer) ∙ ap (λ k. after_check k (answer_for (machine_of m F) c.args.text.now (length c.args.out.now))) (sym sound) in
    let output = rw same at c.transduce_sound.ensures.output in
    record {
      answer = answer;
      output = output;
      agrees = agrees_if_checked m F g.A.Alphabet.laws;
      means = transduces m F g.A.Alphabet.laws c.args.text.now c.args.out.now c.transduce_sound.new.out c.transduce_sound.result answer output;
    }
