use Rattle.std.proofs.Common.{◌≡◌, ℕ, ◌+◌, ◌-◌, ◌<◌, ◌≤◌, List, [], ◌∷◌, ◌++◌, length, take, drop, Some, None, sym, refl, ap, ◌∙◌, subst, append-nil, arith, rules}
use borrow.Rule.Slice.PartMut.{put_mid, same_len_mid}
use Rattle.machine.specs.Walk.{written}
use Rattle.filter.specs.Outcomes.{put}
use Rattle.std.specs.Result.{result_ok}
use Rattle.std.proofs.lemmas.List.{take_all}
use Rattle.alphabet.specs.Model.{SoundTerm}
use Rattle.machine.specs.Machine.{Machine, run}
use Rattle.machine.proofs.Runs.{run_push}
use Rattle.table.specs.Table.{table_of}
use Rattle.table.proofs.Turns.{all_read}
use Rattle.filter.specs.Machines.{values_of, machine_of}
use Rattle.join_finals.proofs.Short.{Short, step_short}
use Rattle.join_finals.proofs.Steps.{Stepped, walk_steps, walk_stuck, put_mid_lem, values_upto, run_stuck}
use Rattle.table.proofs.Soundness.{sound_from_checked}
use Rattle.join_finals.proofs.run_constants.Goals as goal

-- what a step wrote is short
short_of : (M : Machine) (p s q k : ℕ) → Short (M.step p s) → Stepped M p s q k → k ≤ 32
short_of M p s q k h (v, e, f, w) = let j = subst Short e h in omega arith

-- the run one symbol on
ran_on : (M : Machine) (start p s q k n : ℕ) (u u' out ys : List ℕ) → u' ≡ u ++ (s ∷ []) → run M u start ≡ Some (p, take n out) → n + k ≤ length out
    → ys ≡ put 0 (written M (s ∷ []) p) (take (length out - n) (drop n out)) → Stepped M p s q k
    → run M u' start ≡ Some (q, take (n + k) (put_mid n (length out - n) out ys))
ran_on M start p s q k n u u' out ys e ran room is (v, step, size, wrote) =
    ap (λ l. run M l start) e ∙ run_push M u s start p q (take n out) v ran step
    ∙ ap (λ l. Some (q, l)) (sym (ap (λ i. take (n + i) (put_mid n (length out - n) out ys)) size ∙ put_mid_lem (take n out) v out ys n refl (omega arith) (is ∙ ap (λ l. put 0 l (take (length out - n) (drop n out))) wrote)))

pub loop-term-init : goal.loop-term-init
unfolding run
loop-term-init g c = (refl, omega arith, refl)

pub value-requires : goal.value-requires
value-requires g c = record {
  sound = all_read (SoundTerm g.A.Alphabet.model) c.args.terms.now c.loop-term.term-index c.term-item.result c.loop-term-test.true c.term-item.is c.requires.terms;
}

pub loop-term-preserved-in_default : goal.loop-term-preserved-in_default
loop-term-preserved-in_default g c =
    let m = g.A.Alphabet.model in
    let I = c.loop-term.invariant in
    let e = values_upto m c.args.terms.now c.loop-term.term-index c.term-item.result c.loop-term-test.true c.term-item.is None (sym c.value.ensures ∙ c.in_default.is) in
    (ap (λ u. run (machine_of m (table_of c.args.second.now.draft)) u c.args.start) (e ∙ append-nil _) ∙ I.0, omega (arith, I.1), I.2)

pub returns-in_err-next : goal.returns-in_err-next
returns-in_err-next g c =
    let m = g.A.Alphabet.model in
    let M = machine_of m (table_of c.args.second.now.draft) in
    record {
      ran = rw c.from_residual.ensures
          (run_stuck m c.args.terms.now c.loop-term.term-index c.term-item.result c.loop-term-test.true c.term-item.is M c.args.start c.loop-term.state (take c.loop-term.count c.loop-term.out) c.in-Some.symbol
          (sym c.value.ensures ∙ c.in-Some.is) c.loop-term.invariant.0 (walk_stuck M c.loop-term.state c.in-Some.symbol (sym c.in_err-next.was ∙ c.ok.ensures.value ∙ ap result_ok c.walk.ensures.answer)));
    }

pub overflow_add-count : goal.overflow_add-count
overflow_add-count g c =
    let m = g.A.Alphabet.model in
    let I = c.loop-term.invariant in
    let M = machine_of m (table_of c.args.second.now.draft) in
    let few = short_of M c.loop-term.state c.in-Some.symbol c.in_ok-next.next c.in_ok-next.written (step_short m (table_of c.args.second.now.draft) (sound_from_checked g.A.Alphabet.model g.A.Alphabet.laws (table_of c.args.second.now.draft) c.args.second.now.sound) c.loop-term.state c.in-Some.symbol)
    (walk_steps M c.loop-term.state c.in-Some.symbol c.in_ok-next.next c.in_ok-next.written (sym c.in_ok-next.was ∙ c.ok.ensures.value ∙ ap result_ok c.walk.ensures.answer)) in
    let low : c.loop-term.count + c.in_ok-next.written < 4096 = omega (arith, I.1, c.requires.few, c.loop-term-test.true) in
    search rules

pub loop-term-preserved : goal.loop-term-preserved
loop-term-preserved g c =
    let m = g.A.Alphabet.model in
    let I = c.loop-term.invariant in
    let M = machine_of m (table_of c.args.second.now.draft) in
    let s = c.in-Some.symbol in
    let stepped = walk_steps M c.loop-term.state s c.in_ok-next.next c.in_ok-next.written (sym c.in_ok-next.was ∙ c.ok.ensures.value ∙ ap result_ok c.walk.ensures.answer) in
    let few = short_of M c.loop-term.state s c.in_ok-next.next c.in_ok-next.written (step_short m (table_of c.args.second.now.draft) (sound_from_checked g.A.Alphabet.model g.A.Alphabet.laws (table_of c.args.second.now.draft) c.args.second.now.sound) c.loop-term.state s) stepped in
    let room : c.loop-term.count + c.in_ok-next.written ≤ length c.loop-term.out = omega (arith, I.1, I.2, c.requires.few, c.requires.room, c.loop-term-test.true) in
    let e = values_upto m c.args.terms.now c.loop-term.term-index c.term-item.result c.loop-term-test.true c.term-item.is (Some s) (sym c.value.ensures ∙ c.in-Some.is) in (
      ran_on M c.args.start c.loop-term.state s c.in_ok-next.next c.in_ok-next.written c.loop-term.count (values_of m (take c.loop-term.term-index c.args.terms.now) 0) _ c.loop-term.out c.walk.new.out e I.0 room c.walk.ensures.output stepped,
      omega (arith, I.1),
      same_len_mid c.loop-term.count (length c.loop-term.out - c.loop-term.count) c.loop-term.out c.walk.new.out c.walk.auto.out ∙ I.2,
    )

pub returns : goal.returns
returns g c =
    let m = g.A.Alphabet.model in
    let I = c.loop-term.invariant in
    record { ran = (ap (λ l. run (machine_of m (table_of c.args.second.now.draft)) (values_of m l 0) c.args.start) (sym (take_all c.loop-term.term-index c.args.terms.now c.loop-term-test.false)) ∙ I.0, omega (arith, I.1, c.requires.few)) }
