use Rattle.std.proofs.Common.{◌≡◌, ◌+◌, ◌-◌, true, false, eqb, take, drop, sym, refl, ap, ◌∙◌, subst, arith, rules}
use Rattle.std.specs.List.{AllByRecursion}
use Rattle.std.proofs.lemmas.List.{length-take}
use Rattle.std.proofs.lemmas.Option.{slice_get_read}
use Rattle.std.proofs.lemmas.Result.{err_from_is_err_and}
use Rattle.std.proofs.lemmas.Bool.Decides.{nat_tests}
use Rattle.alphabet.specs.Model.{SoundTerm}
use Rattle.join_pairs.proofs.Meetings.{entries_fit}
use Rattle.join_rules.proofs.Turns.{walking_start, walking_end, walking_skip, walking_on, walking_refused, ends_within, terms_sound}
use Rattle.table.proofs.Soundness.{sound_from_checked}
use Rattle.table.specs.Table.{table_of}
use Rattle.join_ways.specs.Added.{lines}
use Rattle.join_rules.proofs.add_pair.Goals as goal
use Rattle.join_rules.proofs.add_pair.Goals.{then-rule-pair+in_ok-add_line, else-rule-pair}

pub loop-rule-init : goal.loop-rule-init
loop-rule-init g c = (walking_start _ _ _ _ _ _ _ _ _ _ (sound_from_checked g.A.Alphabet.model g.A.Alphabet.laws (table_of c.args.first.now.draft) c.args.first.now.sound) c.final_total-start.result c.final_total-start.ensures.total (entries_fit c.args.queue.now) (lines c.args.rules.now c.args.outputs.now).rules.fits (lines c.args.rules.now c.args.outputs.now).outputs.fits, refl, refl, refl, refl)

pub overflow_add-start : goal.overflow_add-start
overflow_add-start g c =
    let e = ends_within _ _ _ _ _ _ _ _ _ _ _ _ _ _ _ _ c.loop-rule.invariant.0 c.rule-item.result c.loop-rule-test.true c.rule-item.is in
    let few = (sound_from_checked g.A.Alphabet.model g.A.Alphabet.laws (table_of c.args.first.now.draft) c.args.first.now.sound).few_outputs in
    search rules

pub offset_bounds-first-from : goal.offset_bounds-first-from
offset_bounds-first-from g c = omega (arith, ends_within _ _ _ _ _ _ _ _ _ _ _ _ _ _ _ _ c.loop-rule.invariant.0 c.rule-item.result c.loop-rule-test.true c.rule-item.is)

pub slice_bounds-course-end : goal.slice_bounds-course-end
slice_bounds-course-end g c =
    let e = ends_within _ _ _ _ _ _ _ _ _ _ _ _ _ _ _ _ c.loop-rule.invariant.0 c.rule-item.result c.loop-rule-test.true c.rule-item.is in
    search rules

pub invariant_of-course : goal.invariant_of-course
invariant_of-course g c =
    let m = g.A.Alphabet.model in
    let I = c.loop-rule.invariant in
    let r = c.rule-item.result in
    let start = c.loop-rule.start in
    let size : (start + r.outputs) - start ≡ r.outputs = omega arith in
    record {
      starts = c.final_total-begins.ensures.total;
      sound = subst (λ n. AllByRecursion (SoundTerm m) (take n (drop start c.args.first.now.draft.outputs.now))) (sym size) (terms_sound _ _ _ _ _ _ _ _ _ _ _ _ _ _ _ _ I.0 r c.loop-rule-test.true c.rule-item.is);
    }

pub add_line-requires : goal.add_line-requires
add_line-requires g c =
    let I = c.loop-rule.invariant in
    let r = c.rule-item.result in
    let nth = slice_get_read c.args.first.now.draft.rules.now _ c.loop-rule.rule-index r refl c.loop-rule-test.true c.rule-item.is in
    let sound = sound_from_checked g.A.Alphabet.model g.A.Alphabet.laws (table_of c.args.first.now.draft) c.args.first.now.sound in
    record {
      guard = sound.guard c.loop-rule.rule-index r nth;
      few = omega (arith, c.requires.few, I.1);
      path = simp length-take (omega (arith, sound.short_output c.loop-rule.rule-index r nth, c.requires.path));
    }

pub returns-in_err-add_line : goal.returns-in_err-add_line
returns-in_err-add_line g c =
    let I = c.loop-rule.invariant in
    let r = c.rule-item.result in
    let start = c.loop-rule.start in
    let O = c.args.first.now.draft.outputs.now in
    let size : (start + r.outputs) - start ≡ r.outputs = omega arith in
    let here : eqb r.state c.args.pair.0 ≡ true = grind (arith, nat_tests) in
    let over = c.in_err-add_line.ensures.takes in
    let e = err_from_is_err_and c.from_residual.result c.from_residual.ensures.1 in
    record {
      takes = rw e.1 (walking_refused _ _ _ _ _ _ _ _ _ _ _ _ _ _ _ _ I.0 r c.loop-rule-test.true c.rule-item.is (take ((start + r.outputs) - start) (drop start O)) (ap (λ n. take n (drop start O)) size) here
          (λ low. over (omega (arith, low, I.1))));
      taken = c.add_line.ensures.taken ∙ I.2;
      room = c.add_line.ensures.room ∙ I.1;
      same_rules = c.add_line.ensures.same_rules ∙ I.3;
      same_outputs = c.add_line.ensures.same_outputs ∙ I.4;
    }

pub loop-rule-preserved : goal.loop-rule-preserved
loop-rule-preserved g c = elim c.if-rule-pair.branch [
  | then-rule-pair+in_ok-add_line w ↦
      let I = c.loop-rule.invariant in
      let r = c.rule-item.result in
      let start = c.loop-rule.start in
      let O = c.args.first.now.draft.outputs.now in
      let size : (start + r.outputs) - start ≡ r.outputs = omega arith in
      let here : eqb r.state c.args.pair.0 ≡ true = grind (arith, nat_tests) in
      let t = w.in_ok-add_line.ensures.takes in
      rw (w.queue-is, w.rules-is, w.outputs-is) (
        walking_on _ _ _ _ _ _ _ _ _ _ _ _ _ _ _ _ I.0 r c.loop-rule-test.true c.rule-item.is (take ((start + r.outputs) - start) (drop start O)) (ap (λ n. take n (drop start O)) size) here
            _ _ _ _ (t.0, omega (arith, t.1, I.1), t.2),
        w.add_line.ensures.room ∙ I.1,
        w.add_line.ensures.taken ∙ I.2,
        w.add_line.ensures.same_rules ∙ I.3,
        w.add_line.ensures.same_outputs ∙ I.4,
      )
  | else-rule-pair w ↦
      let I = c.loop-rule.invariant in
      let other : eqb c.rule-item.result.state c.args.pair.0 ≡ false = grind (arith, nat_tests) in
      rw (w.queue-is, w.rules-is, w.outputs-is)
      (walking_skip _ _ _ _ _ _ _ _ _ _ _ _ _ _ _ _ I.0 c.rule-item.result c.loop-rule-test.true c.rule-item.is other, I.1, I.2, I.3, I.4)
]

pub returns : goal.returns
returns g c =
    let I = c.loop-rule.invariant in
    let t = walking_end _ _ _ _ _ _ _ _ _ _ _ _ _ _ _ _ I.0 c.loop-rule-test.false in
    record { takes = t; taken = I.2; room = I.1; same_rules = I.3; same_outputs = I.4 }
