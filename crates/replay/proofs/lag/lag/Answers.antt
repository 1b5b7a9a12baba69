use Rattle.std.proofs.Common.{◌≡◌, ℕ, ◌-◌, eqb, length, take, drop, ap, ◌∙◌, sym, rules, tests}
use Rattle.std.specs.List.{zip}
use Rattle.std.proofs.lemmas.List.{take_rest}
use Rattle.std.proofs.lemmas.List.Folds.{length-prefix_len}
use Rattle.std.proofs.lemmas.Iterator.{YieldsList-from_slice, YieldsList-from_zip}
use Rattle.std.proofs.lemmas.Iterator.Search.{YieldsList-from_take_while}
use Rattle.std.proofs.lemmas.Iterator.Consumers.{count_from_yields_List}
use Rattle.replay.proofs.Fronts.{front, front_rest}
use Rattle.replay.proofs.lag.lag.Goals as goal

pub returns : goal.returns
returns c =
    let x = c.args.x.now in
    let y = c.args.y.now in
    let test = λ (t : ℕ × ℕ). eqb t.0 t.1 in
    let n = c.count-front.result in
    let count : n ≡ front x y =
    count_from_yields_List c.take_while.result _ c.count-front.ensures.ran
    (YieldsList-from_take_while _ test (YieldsList-from_zip (YieldsList-from_slice x cc) (YieldsList-from_slice y cc)) c.take_while.ensures.closure c.take_while.ensures.done (λ t b q k. search (rules, tests)))
    ∙ length-prefix_len test (zip x y) in
    front_rest x y ∙ ap (λ k. (drop k x, drop k y)) (sym count) ∙ ap (λ l. (l, drop n y)) (sym (take_rest x n)) ∙ ap (λ l. (take (length x - n) (drop n x), l)) (sym (take_rest y n))
