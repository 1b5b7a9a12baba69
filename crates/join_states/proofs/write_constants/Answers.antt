use Rattle.std.proofs.Common.{◌<◌, [], ◌∷◌, map, take, refl, sym, ap, subst, ◌∙◌, arith}
use Rattle.std.proofs.ByRecursion.{All-get_or}
use Rattle.std.proofs.lemmas.List.{take_all, map_more, length-map, length-take-le}
use Rattle.std.proofs.lemmas.Result.{err_from_is_err_and}
use Rattle.join_ways.proofs.Splices.{Mid, mid_none, mid_more, mid_same, mid_length}
use Rattle.join_states.proofs.write_constants.Goals as goal

pub loop-symbol-init : goal.loop-symbol-init
loop-symbol-init g c = (mid_none c.args.outputs.now.count c.args.outputs.now.items.now c.args.outputs.now.fits, refl)

pub constant-requires : goal.constant-requires
constant-requires g c = record { inside = All-get_or (λ s. s < g.A.Alphabet.model.size) c.args.symbols.now c.loop-symbol.symbol-index 0 c.loop-symbol-test.true c.requires }

pub returns-in_err-push : goal.returns-in_err-push
returns-in_err-push g c =
    let I = c.loop-symbol.invariant in
    let same = mid_length _ _ _ _ _ I.0 in
    let i = c.loop-symbol.symbol-index in
    let ss = c.args.symbols.now in
    let f = g.A.Alphabet.model.constant in
    let over = c.in_err-push.ensures.wrote in
    let p = err_from_is_err_and c.from_residual.result c.from_residual.ensures.1 in
    record {
      wrote = rw p.1 (omega (arith, over, I.0.ends, length-map (take i ss) f, length-map ss f, length-take-le i ss (omega (arith, c.loop-symbol-test.true)), c.loop-symbol-test.true));
      same = c.push.ensures.same ∙ I.1;
    }

pub loop-symbol-preserved : goal.loop-symbol-preserved
loop-symbol-preserved g c =
    let f = g.A.Alphabet.model.constant in
    let ss = c.args.symbols.now in
    let i = c.loop-symbol.symbol-index in
    let I = c.loop-symbol.invariant in
    let e = map_more f ss i 0 c.loop-symbol-test.true in
    let wrote = c.in_ok-push.ensures.wrote in
    let piece : Mid c.loop-symbol.outputs.count c.push.new.self.count (c.constant.result ∷ []) c.loop-symbol.outputs.items.now c.push.new.self.items.now =
    record { ends = wrote.0; room = wrote.1; is = wrote.2 } in
    let here = subst (λ t. Mid c.loop-symbol.outputs.count c.push.new.self.count (t ∷ []) c.loop-symbol.outputs.items.now c.push.new.self.items.now) c.constant.ensures piece in
    (mid_same _ _ _ _ _ _ (sym e) (mid_more _ _ _ _ _ _ _ _ I.0 here), c.push.ensures.same ∙ I.1)

pub returns : goal.returns
returns g c =
    let I = c.loop-symbol.invariant in
    let e = ap (map g.A.Alphabet.model.constant) (take_all c.loop-symbol.symbol-index c.args.symbols.now c.loop-symbol-test.false) in
    let k = mid_same _ _ _ _ _ _ e I.0 in
    record { wrote = (k.ends, k.room, k.is); same = I.1 }
