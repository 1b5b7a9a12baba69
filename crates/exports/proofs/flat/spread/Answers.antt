use Rattle.std.proofs.Common.{◌≡◌, ◌++◌, map, length, take, drop, set, ap, ◌∙◌, arith}
use Rattle.std.proofs.lemmas.List.{take_all}
use Rattle.exports.proofs.Cut.{one_more}
use Rattle.exports.proofs.flat.spread.Goals as goal

pub loop-i-preserved : goal.loop-i-preserved
loop-i-preserved g c = λ f gives.
    let xs = c.args.entries.now in
    let ys = c.args.list.now in
    let i = c.loop-i.i in
    let x = c.index-entries-i.result in
    ap (λ l. set l i c.from.result) (c.loop-i.invariant f gives)
    ∙ ap (λ v. set (map f (take i xs) ++ drop i ys) i v) (gives x c.from.result c.from.ensures)
    ∙ one_more f xs ys i x (f x) c.loop-i-test.true c.requires c.index-entries-i.is

pub returns : goal.returns
returns g c = λ f gives.
    let xs = c.args.entries.now in
    let ys = c.args.list.now in
    let all : c.loop-i.i ≡ length xs = omega arith in
    c.loop-i.invariant f gives
    ∙ ap (λ k. map f (take k xs) ++ drop k ys) all
    ∙ ap (λ l. map f l ++ drop (length xs) ys) (take_all (length xs) xs (omega arith))
