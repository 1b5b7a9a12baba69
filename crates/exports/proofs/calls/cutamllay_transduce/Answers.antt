use Rattle.std.proofs.Common.{length, ap, ◌∙◌, subst, inr}
use Rattle.range_laws.specs.Ranges.{ranges}
use Rattle.table.specs.Check.{checked}
use Rattle.filter.specs.Machines.{machine_of}
use Rattle.filter.specs.Outcomes.{answer_for}
use Rattle.filter.specs.Promises.{after_check, Transduces}
use Rattle.exports.proofs.calls.cutamllay_transduce.Goals as goal

pub returns : goal.returns
returns c =
    let is = c.draft-draft.ensures ∙ c.in-Ok.ensures in
    let text = c.args.text.now in
    let before = c.args.out.now in
    let after = c.transduce.new.out in
    inr (record {
      result = c.transduce.result;
      is = c.transduce_answer.ensures;
      defined = c.transduce.ensures.answer ∙ ap (λ F. after_check (checked (ranges 256) F) (answer_for (machine_of (ranges 256) F) text (length before))) is;
      means = subst (λ F. Transduces (ranges 256) F text before after c.transduce.result) is c.transduce.ensures.means;
    })
