use Rattle.std.proofs.Common.{Err, refl, ◌∙◌, subst}
use Rattle.range_laws.specs.Ranges.{ranges}
use Rattle.table.specs.Table.{table_of}
use Rattle.comparing.specs.declared.CompareFault.TheVariants.{NoMemory}
use Rattle.comparing.specs.Comparisons.{Compares}
use Rattle.exports.specs.Flats.{flat_table}
use Rattle.exports.proofs.calls.cutamllay_compare.Goals as goal

pub returns-in_default : goal.returns-in_default
returns-in_default c = record { result = Err NoMemory; is = refl; witness = refl; compares = tt }

pub returns-in_default-read : goal.returns-in_default-read
returns-in_default-read c = record { result = Err NoMemory; is = refl; witness = refl; compares = tt }

pub returns : goal.returns
returns c =
    let one = c.draft-left.ensures ∙ c.in-Ok.ensures in
    let other = c.draft-right.ensures ∙ c.in-Ok-read.ensures in
    let H = table_of c.draft-right.result in
    let F = flat_table c.args.first_states.now c.args.first_rules.now c.args.first_outputs.now in
    let r = c.compare_drafts.result in
    record {
      result = r;
      is = c.compare_answer.ensures.answer;
      witness = c.compare_answer.ensures.witness;
      compares = subst (λ X. Compares (ranges 256) F X r) other (subst (λ X. Compares (ranges 256) X H r) one c.compare_drafts.ensures);
    }
