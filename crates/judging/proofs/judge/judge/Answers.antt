use Rattle.std.proofs.Common.{◌+◌, ◌≤◌, sym, ◌∙◌, mul-le-mul_right, arith}
use Rattle.std.proofs.lemmas.Bool.{both_ways}
use Rattle.table.specs.Table.{table_of}
use Rattle.steps.specs.Steps.{at}
use Rattle.steps.specs.declared.step.Visit.TheVariants.{First, Second}
use Rattle.steps.specs.Places.{steps_needed_lem, place_of}
use Rattle.steps.proofs.Placing.{place_below, place_room}
use Rattle.judging.proofs.Judging.{found_some, found_none, proper_first, proper_again, step_attached, next_attached, step_room, next_earlier, judged_half, judged_same, judged_twice, next_lag, step_lag}
use Rattle.judging.proofs.judge.judge.Goals as goal

pub find-requires : goal.find-requires
find-requires g c =
    let m = g.A.Alphabet.model in
    let F = table_of c.args.left.now in
    let H = table_of c.args.right.now in
    let p = c.args.frame.left in
    let q = c.args.frame.right in
    let x = c.args.next in
    let E = c.requires.extends in
    record {
      left = c.requires.framed.few_left;
      right = c.requires.framed.few_right;
      placed = c.requires.going.kept.placed;
      within = omega (arith, place_below p q x.left.state x.right.state First (proper_first p q x.left.state x.right.state E.known_left E.known_right c.requires.alive));
    }

pub returns-then-not-both_live : goal.returns-then-not-both_live
returns-then-not-both_live g c =
    let m = g.A.Alphabet.model in
    let F = table_of c.args.left.now in
    let H = table_of c.args.right.now in
    let p = c.args.frame.left in
    let q = c.args.frame.right in
    let x = c.args.next in
    let E = c.requires.extends in
    judged_half m F H p q c.args.frame.width c.args.steps.now c.args.cells.now x E c.requires.going.kept
    (next_earlier m F H p q c.args.frame.width c.args.steps.now c.args.cells.now x.parent x.symbol c.requires.going)
    c.in-Some.first c.in-Some.ensures.0 (proper_first p q x.left.state x.right.state E.known_left E.known_right c.requires.alive) c.in-Some.ensures.1
    (sym c.both_live.ensures ∙ c.if-not-both_live.true)

pub find-requires-2 : goal.find-requires-2
find-requires-2 g c =
    let m = g.A.Alphabet.model in
    let F = table_of c.args.left.now in
    let H = table_of c.args.right.now in
    let p = c.args.frame.left in
    let q = c.args.frame.right in
    let x = c.args.next in
    let E = c.requires.extends in
    record {
      left = c.requires.framed.few_left;
      right = c.requires.framed.few_right;
      placed = c.requires.going.kept.placed;
      within = omega (arith, place_below p q x.left.state x.right.state Second (proper_again p q x.left.state x.right.state E.known_left E.known_right (sym c.both_live.ensures ∙ c.if-not-both_live.false)));
    }

pub returns-then-is_some : goal.returns-then-is_some
returns-then-is_some g c =
    let m = g.A.Alphabet.model in
    let F = table_of c.args.left.now in
    let H = table_of c.args.right.now in
    let p = c.args.frame.left in
    let q = c.args.frame.right in
    let x = c.args.next in
    let E = c.requires.extends in
    let found = found_some p q (place_of p q x.left.state x.right.state Second) c.args.steps.now c.find-2.result (sym c.is_some.ensures ∙ c.if-is_some.true) c.find-2.ensures in
    judged_twice m F H p q c.args.frame.width c.args.steps.now c.args.cells.now x E c.requires.going.kept
    (next_earlier m F H p q c.args.frame.width c.args.steps.now c.args.cells.now x.parent x.symbol c.requires.going)
    found.0 found.1
    (proper_again p q x.left.state x.right.state E.known_left E.known_right (sym c.both_live.ensures ∙ c.if-not-both_live.false))
    (proper_first p q x.left.state x.right.state E.known_left E.known_right c.requires.alive) found.2

pub lags_alike-requires : goal.lags_alike-requires
lags_alike-requires g c =
    let m = g.A.Alphabet.model in
    let F = table_of c.args.left.now in
    let H = table_of c.args.right.now in
    let p = c.args.frame.left in
    let q = c.args.frame.right in
    let x = c.args.next in
    let E = c.requires.extends in
    let w = c.args.frame.width in
    let L = c.args.steps.now in
    let C = c.args.cells.now in
    let K = c.requires.going.kept in
    let i = c.in-Some.first in
    let h = c.in-Some.ensures.0 in
    let few = place_room p q L C K.placed in
    let near : x.parent + 1 ≤ steps_needed_lem p q + 1 = omega (arith, E.above) in
    let most = mul-le-mul_right w near in
    record {
      tracks = K.tracks;
      first = step_attached m F H p q w L C K i h;
      second = next_attached m F H p q w L C x E;
      short = (
        omega (arith, step_room m F H p q w L C K i (at L i).left.total h (K.lefts i h), c.requires.framed.room),
        omega (arith, step_room m F H p q w L C K i (at L i).right.total h (K.rights i h), c.requires.framed.room),
        omega (arith, E.short_left, c.requires.framed.room),
        omega (arith, E.short_right, c.requires.framed.room),
      );
      room = c.requires.room;
    }

pub returns-then-lags_alike : goal.returns-then-lags_alike
returns-then-lags_alike g c =
    let m = g.A.Alphabet.model in
    let F = table_of c.args.left.now in
    let H = table_of c.args.right.now in
    let p = c.args.frame.left in
    let q = c.args.frame.right in
    let x = c.args.next in
    let E = c.requires.extends in
    judged_same m F H p q c.args.frame.width c.args.steps.now c.args.cells.now x E c.requires.going.kept
    (next_earlier m F H p q c.args.frame.width c.args.steps.now c.args.cells.now x.parent x.symbol c.requires.going)
    c.in-Some.first c.in-Some.ensures.0
    (proper_again p q x.left.state x.right.state E.known_left E.known_right (sym c.both_live.ensures ∙ c.if-not-both_live.false))
    (proper_first p q x.left.state x.right.state E.known_left E.known_right c.requires.alive) c.in-Some.ensures.1
    (c.lags_alike.ensures.0 c.if-lags_alike.true)

pub returns : goal.returns
returns g c =
    let m = g.A.Alphabet.model in
    let F = table_of c.args.left.now in
    let H = table_of c.args.right.now in
    let p = c.args.frame.left in
    let q = c.args.frame.right in
    let x = c.args.next in
    let E = c.requires.extends in
    let w = c.args.frame.width in
    let L = c.args.steps.now in
    let C = c.args.cells.now in (
      proper_again p q x.left.state x.right.state E.known_left E.known_right (sym c.both_live.ensures ∙ c.if-not-both_live.false),
      found_none p q (place_of p q x.left.state x.right.state Second) L c.find-2.result (sym c.is_some.ensures ∙ c.if-is_some.false) c.find-2.ensures,
      λ _. (c.in-Some.first, c.in-Some.ensures.0, c.in-Some.ensures.1, λ e. both_ways c.lags_alike.result c.if-lags_alike.false (c.lags_alike.ensures.1 (step_lag m F H p q w L C c.requires.going.kept c.in-Some.first c.in-Some.ensures.0 ∙ e ∙ sym (next_lag m F H p q w L C x E)))),
    )
