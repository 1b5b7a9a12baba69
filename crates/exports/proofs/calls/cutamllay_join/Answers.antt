use Rattle.std.proofs.Common.{Err, refl, ◌∙◌, subst}
use Rattle.table.specs.Table.{table_of}
use Rattle.exports.specs.declared.joining.JoinFault.TheVariants.{NoMemory}
use Rattle.exports.specs.Joins.{Composed}
use Rattle.exports.specs.Flats.{flat_table}
use Rattle.exports.proofs.calls.cutamllay_join.Goals as goal

pub returns-in_default : goal.returns-in_default
returns-in_default c = record { result = Err NoMemory; is = refl; lists = (refl, refl, refl); composed = tt }

pub returns-in_default-read : goal.returns-in_default-read
returns-in_default-read c = record { result = Err NoMemory; is = refl; lists = (refl, refl, refl); composed = tt }

pub returns : goal.returns
returns c =
    let one = c.draft-left.ensures ∙ c.in-Ok.ensures in
    let other = c.draft-right.ensures ∙ c.in-Ok-read.ensures in
    let H = table_of c.draft-right.result in
    let F = flat_table c.args.first_states.now c.args.first_rules.now c.args.first_outputs.now in
    let r = c.join_drafts.result in
    record {
      result = r;
      is = c.join_answer.ensures.answer;
      lists = c.join_answer.ensures.lists;
      composed = subst (λ X. Composed F X r) other (subst (λ X. Composed X H r) one c.join_drafts.ensures);
    }
