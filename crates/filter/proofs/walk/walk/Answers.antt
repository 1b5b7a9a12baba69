use Rattle.std.proofs.Common.{◌≡◌, ◌+◌, ◌-◌, ◌≤◌, ◌++◌, length, get_or, take, drop, Ok, Err, sym, ap, ◌∙◌, arith}
use Rattle.std.proofs.lemmas.List.{length-append, length-take}
use Rattle.machine.specs.Walk.{position}
use Rattle.machine.proofs.Walks.{along_step, along_stuck, along_end}
use Rattle.table.specs.Table.{table_of}
use Rattle.filter.specs.Machines.{values_of, machine_of}
use Rattle.filter.specs.Outcomes.{put, end_of}
use Rattle.filter.proofs.Emits.{values_few}
use Rattle.filter.proofs.Puts.{put_append}
use Rattle.filter.proofs.walk.walk.Goals as goal

pub returns-in_default : goal.returns-in_default
returns-in_default g c =
    let M = machine_of g.A.Alphabet.model (table_of c.args.filter.now.draft) in
    let I = c.loop-position.invariant in
    let stuck = along_stuck M c.args.text.now c.args.start c.loop-position.position c.loop-position.state I.0 I.1 c.loop-position-test.true c.in_default.ensures.leads in
    record {
      answer = ap Err (sym stuck.1) ∙ ap (end_of (position M c.args.text.now c.args.start)) (sym stuck.0);
      bound = tt;
      output = sym I.4 ∙ ap (λ w. put 0 w c.args.out.now) (sym stuck.2);
    }

pub loop-position-preserved : goal.loop-position-preserved
loop-position-preserved g c =
    let m = g.A.Alphabet.model in
    let M = machine_of m (table_of c.args.filter.now.draft) in
    let I = c.loop-position.invariant in
    let f = c.in-Some.found in
    let L = c.in-Some.ensures.leads in
    let w = I.0 in
    let terms = take (f.to - f.from) (drop f.from c.args.filter.now.draft.outputs.now) in
    let v = values_of m terms (get_or c.args.text.now c.loop-position.position 0) in
    let few : length terms ≤ 32 = simp length-take (omega (arith, L.ordered, L.few)) in
    let most = values_few m terms (get_or c.args.text.now c.loop-position.position 0) in
    let place : 0 + length w ≡ c.loop-position.count = omega (arith, I.2) in
    let long : length (w ++ v) ≡ c.emit-count.result = length-append w v ∙ ap (λ n. n + length v) I.2 ∙ sym c.emit-count.ensures.count in (
      w ++ v,
      along_step M c.args.text.now c.args.start c.loop-position.position c.loop-position.state w I.1 (f.next, v) c.loop-position-test.true L.steps,
      long,
      omega (arith, c.emit-count.ensures.count),
      put_append 0 w v c.args.out.now ∙ ap (λ o. put (0 + length w) v o) I.4 ∙ ap (λ n. put n v c.loop-position.out) place ∙ sym c.emit-count.ensures.output,
    )

pub returns : goal.returns
returns g c =
    let M = machine_of g.A.Alphabet.model (table_of c.args.filter.now.draft) in
    let I = c.loop-position.invariant in
    let end = along_end M c.args.text.now c.args.start c.loop-position.position c.loop-position.state I.0 I.1 c.loop-position-test.false in
    record {
      answer = ap (λ n. Ok (c.loop-position.state, n)) (sym I.2) ∙ ap (end_of (position M c.args.text.now c.args.start)) (sym end.0);
      bound = omega (arith, I.3);
      output = sym I.4 ∙ ap (λ w. put 0 w c.args.out.now) (sym end.1);
    }
