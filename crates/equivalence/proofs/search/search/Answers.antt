use Rattle.std.proofs.Common.{◌<◌, List, length, Some, sym, ap, ◌∙◌, subst, arith}
use Rattle.std.proofs.lemmas.Bool.{both_ways}
use Rattle.queue.specs.Held.{entries}
use Rattle.machine.specs.Compared.{Told}
use Rattle.table.specs.Table.{table_of}
use Rattle.filter.specs.Machines.{machine_of}
use Rattle.steps.specs.declared.step.Step.{Step}
use Rattle.steps.specs.Steps.{blank, at, text}
use Rattle.steps.specs.Places.{steps_needed_lem}
use Rattle.replay.specs.Replays.{Attached, Agrees, RoomFor}
use Rattle.judging.specs.Kept.{Going, Turned}
use Rattle.equivalence.specs.Answers.{Early}
use Rattle.equivalence.proofs.Searching.{search_done, search_attached, search_left, search_right, search_agreed, search_found, search_early}
use Rattle.equivalence.proofs.search.search.Goals as goal

pub step_agrees-requires : goal.step_agrees-requires
step_agrees-requires g c =
    let m = g.A.Alphabet.model in
    let F = table_of c.args.pair.now.left.now.draft in
    let H = table_of c.args.pair.now.right.now.draft in
    let f = c.args.pair.now.frame in
    let L = c.entries.result.now in
    let C = c.loop-number.cells in
    let k = c.in-Some.number in
    let same = c.entries.ensures ∙ c.in-Some.ensures.entries in
    let at-k = subst (λ n. Turned m F H f.left f.right f.width (entries c.loop-number.queue) C n) (sym c.in-Some.ensures.answer.0) c.loop-number.invariant.0 in
    let R = subst (λ (l : List Step). Turned m F H f.left f.right f.width l C k) (sym same) at-k in
    let h = subst (λ (l : List Step). k < length l) (sym same) c.in-Some.ensures.answer.1 in
    let is = c.in-Some.ensures.answer.2 blank ∙ ap (λ (l : List Step). at l k) (sym same) in
    record {
      tracks = R.kept.tracks;
      attached = subst (λ (x : Step). Attached m F H L x) (sym is) (search_attached m F H f c.args.pair.now.framed L C k R h);
      rooml = subst (λ (x : Step). RoomFor m F x.left f.room) (sym is) (search_left m F H f c.args.pair.now.framed L C k R h);
      roomr = subst (λ (x : Step). RoomFor m H x.right f.room) (sym is) (search_right m F H f c.args.pair.now.framed L C k R h);
      room = omega (arith, c.requires.room, c.loop-number.auto.outputs);
    }

pub returns-then-not-step_agrees : goal.returns-then-not-step_agrees
returns-then-not-step_agrees g c =
    let m = g.A.Alphabet.model in
    let F = table_of c.args.pair.now.left.now.draft in
    let H = table_of c.args.pair.now.right.now.draft in
    let f = c.args.pair.now.frame in
    let L = c.entries.result.now in
    let C = c.loop-number.cells in
    let k = c.in-Some.number in
    let same = c.entries.ensures ∙ c.in-Some.ensures.entries in
    let at-k = subst (λ n. Turned m F H f.left f.right f.width (entries c.loop-number.queue) C n) (sym c.in-Some.ensures.answer.0) c.loop-number.invariant.0 in
    let R = subst (λ (l : List Step). Turned m F H f.left f.right f.width l C k) (sym same) at-k in
    let h = subst (λ (l : List Step). k < length l) (sym same) c.in-Some.ensures.answer.1 in
    let is = c.in-Some.ensures.answer.2 blank ∙ ap (λ (l : List Step). at l k) (sym same) in
    let differ : Agrees m F H L (at L k) → ⊥ = λ e. both_ways c.step_agrees.result c.if-not-step_agrees.true (c.step_agrees.ensures.1 (subst (λ (x : Step). Agrees m F H L x) (sym is) e)) in
    record {
      told = subst (λ (l : List Step). Told (machine_of m F) (machine_of m H) (Some (text l k))) c.entries.ensures (search_found m F H f c.args.pair.now.framed L C k R h differ);
      early = subst (λ (l : List Step). Early (steps_needed_lem f.left f.right) l (Some k)) c.entries.ensures (search_early m F H f c.args.pair.now.framed L C k R h);
    }

pub expand-requires : goal.expand-requires
expand-requires g c =
    let m = g.A.Alphabet.model in
    let F = table_of c.args.pair.now.left.now.draft in
    let H = table_of c.args.pair.now.right.now.draft in
    let f = c.args.pair.now.frame in
    let L = c.entries.result.now in
    let C = c.loop-number.cells in
    let k = c.in-Some.number in
    let same = c.entries.ensures ∙ c.in-Some.ensures.entries in
    let at-k = subst (λ n. Turned m F H f.left f.right f.width (entries c.loop-number.queue) C n) (sym c.in-Some.ensures.answer.0) c.loop-number.invariant.0 in
    let R = subst (λ (l : List Step). Turned m F H f.left f.right f.width l C k) (sym same) at-k in
    let h = subst (λ (l : List Step). k < length l) (sym same) c.in-Some.ensures.answer.1 in
    let is = c.in-Some.ensures.answer.2 blank ∙ ap (λ (l : List Step). at l k) (sym same) in
    let alike = subst (λ (x : Step). Agrees m F H L x) is (c.step_agrees.ensures.0 c.if-not-step_agrees.false) in
    record {
      slots = omega (arith, c.requires.slots, c.loop-number.invariant.1, c.in-Some.ensures.room);
      cells = omega (arith, c.requires.cells, c.loop-number.auto.cells);
      room = omega (arith, c.requires.room, c.loop-number.auto.outputs, c.step_agrees.auto.outputs);
      step = is ∙ ap (λ (l : List Step). at l k) c.entries.ensures;
      going = subst (λ (l : List Step). Going m F H f.left f.right f.width l C k 0) c.entries.ensures (search_agreed m F H f c.args.pair.now.framed L C k R h alike);
    }

pub returns : goal.returns
returns g c = record {
  told = search_done g.A.Alphabet.model (table_of c.args.pair.now.left.now.draft) (table_of c.args.pair.now.right.now.draft) c.args.pair.now.frame c.args.pair.now.framed (entries c.loop-number.queue) c.loop-number.cells c.loop-number.queue.taken c.loop-number.invariant.0 (omega (arith, c.in_default.ensures.answer));
  early = tt;
}
