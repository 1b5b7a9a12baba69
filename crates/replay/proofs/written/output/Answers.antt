use Rattle.std.proofs.Common.{ℕ, ◌-◌, ◌<◌, List, sym, refl, ap, ◌∙◌, subst, arith}
use Rattle.table.specs.Table.{table_of}
use Rattle.filter.specs.Machines.{values_of}
use Rattle.filter.specs.Outcomes.{put}
use Rattle.steps.specs.declared.step.Side.{Side}
use Rattle.steps.specs.Steps.{side_of, at, text}
use Rattle.replay.specs.Replays.{terms_of, output_by}
use Rattle.replay.proofs.Outputs.{Playing, sum, lower, playing_more}
use Rattle.replay.proofs.written.output.Goals as goal

pub overflow_sub-place-in-loop-side : goal.overflow_sub-place-in-loop-side
overflow_sub-place-in-loop-side g c =
    let y = c.loop-side.invariant.0 in
    let some : 0 < (side_of c.args.hand c.loop-side.at).total = omega (arith, c.loop-side-test.true, ap (λ (s : Side). s.total) y) in
    omega (
      arith,
      sum g.A.Alphabet.model (table_of c.args.draft.now) c.args.hand c.args.steps.now c.requires.tree c.requires.traced _ _ c.loop-side.at c.loop-side.out c.loop-side.invariant.1 some,
      ap (λ (s : Side). s.total) y,
      ap (λ (s : Side). s.to - s.from) y,
    )

pub loop-side-smaller : goal.loop-side-smaller
loop-side-smaller g c =
    let y = c.loop-side.invariant.0 in
    let some : 0 < (side_of c.args.hand c.loop-side.at).total = omega (arith, c.loop-side-test.true, ap (λ (s : Side). s.total) y) in
    omega (
      arith,
      lower g.A.Alphabet.model (table_of c.args.draft.now) c.args.hand c.args.steps.now c.requires.tree c.requires.traced _ _ c.loop-side.at c.loop-side.out c.loop-side.invariant.1 some,
      ap (λ (s : Side). s.total) y,
      ap (λ (s : Side). s.total) c.side_of-side-in-loop-side.ensures,
    )

pub loop-side-preserved : goal.loop-side-preserved
loop-side-preserved g c =
    let m = g.A.Alphabet.model in
    let F = table_of c.args.draft.now in
    let L = c.args.steps.now in
    let h = c.args.hand in
    let x = c.loop-side.at in
    let y = c.loop-side.invariant.0 in
    let some : 0 < (side_of h x).total = omega (arith, c.loop-side-test.true, ap (λ (s : Side). s.total) y) in
    let whole = output_by m F (text L c.args.step.parent) c.args.step.symbol (side_of h c.args.step) in
    let more = playing_more m F h L c.requires.tree c.requires.traced whole c.side_of-side.result.total x c.loop-side.out c.loop-side.invariant.1 some ((side_of h x).total - ((side_of h x).to - (side_of h x).from)) refl in
    let wrote = c.emit.ensures.output ∙ ap (λ (s : Side). put (s.total - (s.to - s.from)) (values_of m (terms_of F.outputs s) x.symbol) c.loop-side.out) y in
    (c.side_of-side-in-loop-side.ensures, subst (λ (o : List ℕ). Playing m F h L whole c.side_of-side.result.total (at L x.parent) o) (sym wrote) more)
