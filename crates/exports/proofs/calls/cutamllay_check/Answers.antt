use Rattle.std.proofs.Common.{ap, ◌∙◌, inr}
use Rattle.range_laws.specs.Ranges.{ranges}
use Rattle.table.specs.Check.{checked}
use Rattle.exports.specs.Answers.{check_answer_lem}
use Rattle.exports.proofs.calls.cutamllay_check.Goals as goal

pub returns : goal.returns
returns c =
    let is = c.draft-draft.ensures ∙ c.in-Ok.ensures in
    inr (c.check_answer.ensures ∙ ap check_answer_lem (c.check.ensures.first ∙ ap (checked (ranges 256)) is))
