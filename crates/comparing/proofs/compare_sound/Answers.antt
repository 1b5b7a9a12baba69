use Rattle.std.proofs.Common.{◌≡◌, ℕ, List, length, take, drop, Some, sym, ap, ◌∙◌, subst}
use Rattle.std.proofs.lemmas.List.{take_at}
use Rattle.queue.specs.Held.{entries}
use Rattle.table.specs.Table.{table_of}
use Rattle.steps.specs.Steps.{text}
use Rattle.equivalence.specs.Answers.{text_in}
use Rattle.equivalence.specs.Decided.{Decided}
use Rattle.comparing.proofs.Written.{some_from_ok, cut_is}
use Rattle.comparing.proofs.compare_sound.Goals as goal

pub returns : goal.returns
returns g c =
    let m = g.A.Alphabet.model in
    let F = table_of c.args.first.now.draft in
    let H = table_of c.args.second.now.draft in
    let L = entries c.compare.new.queue in
    let told = subst (λ r. Decided m F H (text_in L r)) c.in-Some.is c.in_ok-answer.ensures.decides in
    let w = c.as_mut_slice-3.result.now in
    let after = c.write_text.new.witness in
    let n = c.in_ok-count.count in
    let t = text c.entries.result.now c.in-Some.step in
    let whole : length after ≡ c.in_ok-text.text.len = c.write_text.auto.witness ∙ c.as_mut_slice-3.ensures.len in
    let is =
    c.truncate.ensures.items
    ∙ ap (take n) (take_at after (drop (length after) c.in_ok-text.text.items) c.in_ok-text.text.len whole)
    ∙ ap (take n) c.write_text.ensures.witness
    ∙ cut_is t w n (some_from_ok c.write_text.result _ n (sym c.ok_or.ensures.value ∙ c.in_ok-count.was) ∙ c.write_text.ensures.answer)
    ∙ ap (λ l. text l c.in-Some.step) c.entries.ensures in
    subst (λ (l : List ℕ). Decided m F H (Some l)) (sym is) told
