use Rattle.std.proofs.Common.{◌∙◌, ◌&&◌, eqb, length, ltb, cond, Some, None, rules, tests, ap}
use Rattle.std.proofs.lemmas.Iterator.{YieldsList-from_slice}
use Rattle.std.proofs.lemmas.Iterator.Search.{position_from_yields_List}
use Rattle.join_laws.specs.Pairs.{Pair}
use Rattle.join_pairs.proofs.Meetings.{place_position}
use Rattle.join_pairs.proofs.place_of.Goals as goal

pub returns : goal.returns
returns c =
    let P = c.args.pairs.now in
    let x = c.args.pair in
    position_from_yields_List (λ (y : Pair). eqb y.0 x.0 && eqb y.1 x.1) _ _ c.position.result c.position.ensures.ran (YieldsList-from_slice P (cc)) (λ y b q k. search (rules, tests))
    ∙ ap (λ n. cond (ltb n (length P)) (Some n) None) (place_position P x)
