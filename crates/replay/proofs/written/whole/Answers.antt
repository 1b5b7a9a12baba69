use Rattle.std.proofs.Common.{length, sym, ap, ◌∙◌, subst}
use Rattle.table.specs.Table.{table_of}
use Rattle.steps.specs.declared.step.Side.{Side}
use Rattle.steps.specs.Steps.{side_of, text}
use Rattle.replay.specs.Replays.{wrote, Within, RoomFor}
use Rattle.replay.proofs.Wholes.{whole_dead, whole_finished}
use Rattle.replay.proofs.written.whole.Goals as goal

pub returns-in_err-state : goal.returns-in_err-state
returns-in_err-state g c =
    let m = g.A.Alphabet.model in
    let F = table_of c.args.filter.now.draft in
    let dead = ap (λ (s : Side). s.state) (sym c.side_of.ensures) ∙ c.in_err-state.was in
    record {
      whole = ap (λ o. wrote o c.args.out.now) c.from_residual.ensures ∙ sym (whole_dead m F (text c.args.steps.now c.args.step.parent) c.args.step.symbol (side_of c.args.hand c.args.step) dead);
      fits = subst (λ o. Within o (length c.args.out.now)) (sym c.from_residual.ensures) tt;
    }

pub returns : goal.returns
returns g c =
    let m = g.A.Alphabet.model in
    let F = table_of c.args.filter.now.draft in
    let alive = ap (λ (s : Side). s.state) (sym c.side_of.ensures) ∙ c.in_ok-state.was in
    let room = subst (λ n. RoomFor m F (side_of c.args.hand c.args.step) n) (sym c.output-count.auto.out) c.requires.room in
    let done = whole_finished m F (text c.args.steps.now c.args.step.parent) c.args.step.symbol (side_of c.args.hand c.args.step) c.in_ok-state.state alive
    c.output-count.result c.output-count.new.out c.finish.new.out c.finish.result room c.output-count.ensures.count c.output-count.ensures.output c.finish.ensures.answer c.finish.ensures.output in
    record { whole = done.0; fits = subst (λ n. Within c.finish.result n) c.output-count.auto.out done.1 }
