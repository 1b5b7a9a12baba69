use Rattle.std.proofs.Common.{◌<◌, map, length, get_or, None, refl, sym, ◌∙◌, arith}
use Rattle.std.proofs.lemmas.List.{length-map, get_or-map}
use Rattle.std.proofs.lemmas.Result.{err_from_is_err_and}
use Rattle.table.specs.Table.{table_of}
use Rattle.join_laws.specs.Joined.{final_at}
use Rattle.join_states.proofs.Endings.{ending_none, ending_more, ending_refused, ending_done}
use Rattle.join_states.proofs.add_states.Goals as goal

pub loop-number-init : goal.loop-number-init
loop-number-init g c = (ending_none _ _ _ _ _ c.args.outputs.now.fits, refl)

pub returns-in_err-state : goal.returns-in_err-state
returns-in_err-state g c =
    let m = g.A.Alphabet.model in
    let f = final_at m (table_of c.args.first.now.draft) (table_of c.args.second.now.draft) in
    let ps = c.args.pairs.now in
    let i = c.loop-number.number in
    let x = get_or ps i (0, 0) in
    let h : i < length (map f ps) = omega (arith, length-map ps f, c.loop-number-test.true) in
    let is = sym (get_or-map f ps i (0, 0) None c.loop-number-test.true) in
    let p = err_from_is_err_and c.from_residual.result c.from_residual.ensures.1 in
    record {
      ended = rw p.1 (ending_refused m c.args.outputs.now.count (map f ps) c.args.states.now c.args.outputs.now.items.now i c.loop-number.outputs.count c.loop-number.states c.loop-number.outputs.items.now c.loop-number.invariant.0 (f x) h is c.in_err-state.ensures.ended);
      same = c.add_state.ensures.same ∙ c.loop-number.invariant.1;
    }

pub loop-number-preserved : goal.loop-number-preserved
loop-number-preserved g c =
    let m = g.A.Alphabet.model in
    let f = final_at m (table_of c.args.first.now.draft) (table_of c.args.second.now.draft) in
    let ps = c.args.pairs.now in
    let i = c.loop-number.number in
    let x = get_or ps i (0, 0) in
    let h : i < length (map f ps) = omega (arith, length-map ps f, c.loop-number-test.true) in
    let is = sym (get_or-map f ps i (0, 0) None c.loop-number-test.true) in
    let r = c.in_ok-state.ensures.ended in (
      rw r.0 (ending_more m c.args.outputs.now.count (map f ps) c.args.states.now c.args.outputs.now.items.now i c.loop-number.outputs.count c.loop-number.states c.loop-number.outputs.items.now c.loop-number.invariant.0 (f x) h is
          (omega (arith, length-map ps f, c.requires)) c.add_state.new.outputs.count c.add_state.new.outputs.items.now r.1 r.2 r.3),
      c.add_state.ensures.same ∙ c.loop-number.invariant.1,
    )

pub returns : goal.returns
returns g c =
    let f = final_at g.A.Alphabet.model (table_of c.args.first.now.draft) (table_of c.args.second.now.draft) in
    record { ended = ending_done _ _ _ _ _ _ _ _ _ c.loop-number.invariant.0 (omega (arith, length-map c.args.pairs.now f, c.loop-number-test.false)); same = c.loop-number.invariant.1 }
