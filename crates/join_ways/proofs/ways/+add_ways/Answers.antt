use Rattle.std.proofs.Common.{◌≡◌, ◌+◌, ◌-◌, true, false, eqb, [], ◌∷◌, map, get_or, take, drop, sym, refl, ap, ◌∙◌, subst, arith, rules}
use Rattle.std.proofs.ByRecursion.{All-get_or}
use Rattle.std.proofs.lemmas.List.{drop_more, length-set}
use Rattle.std.proofs.lemmas.Option.{slice_get_read}
use Rattle.std.proofs.lemmas.Result.{err_from_is_err_and}
use Rattle.std.proofs.lemmas.Bool.Decides.{nat_tests}
use Rattle.alphabet.specs.Model.{SoundTerm}
use Rattle.table.specs.Table.{table_of}
use Rattle.table.proofs.Soundness.{sound_from_checked}
use Rattle.join_laws.specs.Lines.{lines_of}
use Rattle.join_laws.specs.Ways.{ways}
use Rattle.join_ways.specs.declared.write.Span.{Span}
use Rattle.join_ways.specs.Paths.{within, along, raw_line, whole_line}
use Rattle.join_ways.specs.Added.{lines, Adds, Added, Fits, counts}
use Rattle.join_ways.proofs.Goings.{going_start, going_end, going_skip, going_on, going_refused, ends_within, span_sound}
use Rattle.join_ways.proofs.Steps.{by_other, by_empty, by_some, ways_done, spans_sound, along_on, path_kept}
use Rattle.join_ways.proofs.ways.+add_ways.Goals as goal
use Rattle.join_ways.proofs.ways.+add_ways.Goals.{then-rule-state+in-Some+in_ok-add_ways, else-rule-state}

pub returns-then-depth-course : goal.returns-then-depth-course
returns-then-depth-course g t c =
    let m = g.A.Alphabet.model in
    let F = table_of c.args.course.now.second.now.draft in
    let ts = c.args.course.now.terms.now in
    let d = c.args.depth in
    let ws = map (within F.outputs) (take d c.args.path.now) in
    let whole : d - 0 ≡ d = omega arith in
    record {
      adds = subst (λ ls. Adds ls (lines c.args.rules.now c.args.outputs.now) (lines c.add_rule.new.rules c.add_rule.new.outputs) c.add_rule.result)
          (sym (ways_done m (lines_of F) c.args.course.now.number ts ws d c.args.state c.args.guard c.if-depth-course.true))
          (subst (λ n. Adds (whole_line c.args.course.now.number (along m ts (map (within F.outputs) (take n c.args.path.now))) c.args.state c.args.guard ∷ []) (lines c.args.rules.now c.args.outputs.now) (lines c.add_rule.new.rules c.add_rule.new.outputs) c.add_rule.result) whole c.add_rule.ensures.adds);
      same_rules = c.add_rule.ensures.same_rules;
      same_outputs = c.add_rule.ensures.same_outputs;
      keeps = refl;
    }

pub loop-rule-init : goal.loop-rule-init
loop-rule-init g t c =
    let m = g.A.Alphabet.model in
    let F = table_of c.args.course.now.second.now.draft in
    let ts = c.args.course.now.terms.now in
    let d = c.args.depth in (
      going_start m F c.args.course.now.number (along m (take d ts) (map (within F.outputs) (take d c.args.path.now))) (drop (d + 1) ts) (get_or ts d c.index-course-depth.result) c.args.state c.args.guard
          (counts (lines c.args.rules.now c.args.outputs.now)) (lines c.args.rules.now c.args.outputs.now).rules.items.now (lines c.args.rules.now c.args.outputs.now).outputs.items.now d c.args.path.now (sound_from_checked g.A.Alphabet.model g.A.Alphabet.laws (table_of c.args.course.now.second.now.draft) c.args.course.now.second.now.sound) c.args.course.now.first c.args.course.now.starts (lines c.args.rules.now c.args.outputs.now).rules.fits (lines c.args.rules.now c.args.outputs.now).outputs.fits,
      refl,
      refl,
    )

pub overflow_add-start : goal.overflow_add-start
overflow_add-start g t c =
    let e = ends_within _ _ _ _ _ _ _ _ _ _ _ _ _ _ _ _ _ _ _ c.loop-rule.invariant.0 c.rule-item.result c.loop-rule-test.true c.rule-item.is in
    let few = (sound_from_checked g.A.Alphabet.model g.A.Alphabet.laws (table_of c.args.course.now.second.now.draft) c.args.course.now.second.now.sound).few_outputs in
    search rules

pub narrowed-requires : goal.narrowed-requires
narrowed-requires g t c = record {
  guard = c.requires.guard;
  term = All-get_or (SoundTerm g.A.Alphabet.model) c.args.course.now.terms.now c.args.depth c.index-course-depth.result c.if-depth-course.false c.args.course.now.sound;
  into = (sound_from_checked g.A.Alphabet.model g.A.Alphabet.laws (table_of c.args.course.now.second.now.draft) c.args.course.now.second.now.sound).guard c.loop-rule.rule-index c.rule-item.result (slice_get_read c.args.course.now.second.now.draft.rules.now _ c.loop-rule.rule-index c.rule-item.result refl c.loop-rule-test.true c.rule-item.is);
}

pub loop-rule-preserved-in_default : goal.loop-rule-preserved-in_default
loop-rule-preserved-in_default g t c = (
  going_skip _ _ _ _ _ _ _ _ _ _ _ _ _ _ _ _ _ _ _ c.loop-rule.invariant.0 c.rule-item.result c.loop-rule-test.true c.rule-item.is
      (by_empty g.A.Alphabet.model _ _ _ _ _ _ (sym c.narrowed.ensures ∙ c.in_default.is)),
  c.loop-rule.invariant.1,
  c.loop-rule.invariant.2,
)

pub add_ways-requires : goal.add_ways-requires
add_ways-requires g t c κs inside =
    let m = g.A.Alphabet.model in
    let I = c.loop-rule.invariant.0 in
    let S = c.args.course.now.second.now.draft.outputs.now in
    let r = c.rule-item.result in
    let start = c.loop-rule.start in
    let h = c.in-Some.narrower in
    let ts = c.args.course.now.terms.now in
    let x = c.index-course-depth.result in
    let st = All-get_or (SoundTerm m) ts c.args.depth x c.if-depth-course.false c.args.course.now.sound in
    let sl = (sound_from_checked g.A.Alphabet.model g.A.Alphabet.laws (table_of c.args.course.now.second.now.draft) c.args.course.now.second.now.sound).guard c.loop-rule.rule-index r (slice_get_read c.args.course.now.second.now.draft.rules.now _ c.loop-rule.rule-index r refl c.loop-rule-test.true c.rule-item.is) in
    let spans = spans_sound m S ts c.args.path.now c.loop-rule.path c.args.depth (record { from = start; to = start + r.outputs }) x 0 c.if-depth-course.false (omega arith) I.kept
    c.requires.spans (span_sound _ _ _ _ _ _ _ _ _ _ _ _ _ _ _ _ _ _ _ I r c.loop-rule-test.true c.rule-item.is) in
    let guard = g.A.Alphabet.laws.narrowed_sound c.args.guard r.guard h (get_or ts c.args.depth x) c.requires.guard st sl (sym c.narrowed.ensures ∙ c.in-Some.is) in (
      omega arith,
      (
        inside.0,
        (
          inside.1.0,
          (
            inside.1.1,
            (
              omega arith,
              (
                simp length-set (omega arith),
                (
                  spans,
                  guard,
                ),
              ),
            ),
          ),
        ),
      ),
    )

pub returns-in_err-add_ways : goal.returns-in_err-add_ways
returns-in_err-add_ways g t c =
    let m = g.A.Alphabet.model in
    let F = table_of c.args.course.now.second.now.draft in
    let ts = c.args.course.now.terms.now in
    let d = c.args.depth in
    let I = c.loop-rule.invariant.0 in
    let r = c.rule-item.result in
    let k = c.args.course.now.number in
    let start = c.loop-rule.start in
    let x = c.index-course-depth.result in
    let span : Span = record { from = start; to = start + r.outputs } in
    let W = ways m (lines_of F) (drop (d + 1) ts) r.next c.in-Some.narrower in
    let size : (start + r.outputs) - start ≡ r.outputs = omega arith in
    let here : eqb r.state c.args.state ≡ true = grind (arith, nat_tests) in
    let acc = along_on m F.outputs ts c.args.path.now c.loop-rule.path d span x 0 c.if-depth-course.false (omega arith) I.kept (take r.outputs (drop start F.outputs)) (ap (λ n. take n (drop start F.outputs)) size) in
    let over = c.in_err-add_ways.ensures.adds in
    let p = err_from_is_err_and c.from_residual.result c.from_residual.ensures.1 in
    let e = drop_more ts d x c.if-depth-course.false in
    record {
      adds = rw p.1 (subst (λ l. Fits (counts (lines c.args.rules.now c.args.outputs.now)) (map (raw_line k (along m (take d ts) (map (within F.outputs) (take d c.args.path.now)))) (ways m (lines_of F) l c.args.state c.args.guard)) (lines c.args.rules.now c.args.outputs.now).rules.items.now (lines c.args.rules.now c.args.outputs.now).outputs.items.now → ⊥) (sym e)
          (going_refused _ _ _ _ _ _ _ _ _ _ _ _ _ _ _ _ _ _ _ I r c.loop-rule-test.true c.rule-item.is W
          (by_some m _ _ _ _ _ _ c.in-Some.narrower here (sym c.narrowed.ensures ∙ c.in-Some.is))
          (subst (λ o. Fits (counts (lines c.loop-rule.rules c.loop-rule.outputs)) (map (raw_line k o) W) (lines c.loop-rule.rules c.loop-rule.outputs).rules.items.now (lines c.loop-rule.rules c.loop-rule.outputs).outputs.items.now → ⊥) acc over)));
      same_rules = c.add_ways.ensures.same_rules ∙ c.loop-rule.invariant.1;
      same_outputs = c.add_ways.ensures.same_outputs ∙ c.loop-rule.invariant.2;
      keeps = path_kept m F.outputs ts c.args.path.now c.loop-rule.path d span x 0 c.if-depth-course.false (omega arith) I.kept c.add_ways.new.path c.in_err-add_ways.ensures.keeps;
    }

pub loop-rule-preserved : goal.loop-rule-preserved
loop-rule-preserved g t c = elim c.if-rule-state.branch [
  | then-rule-state+in-Some+in_ok-add_ways w ↦
      let m = g.A.Alphabet.model in
      let F = table_of c.args.course.now.second.now.draft in
      let ts = c.args.course.now.terms.now in
      let d = c.args.depth in
      let I = c.loop-rule.invariant.0 in
      let r = c.rule-item.result in
      let k = c.args.course.now.number in
      let start = c.loop-rule.start in
      let x = c.index-course-depth.result in
      let span : Span = record { from = start; to = start + r.outputs } in
      let W = ways m (lines_of F) (drop (d + 1) ts) r.next w.in-Some.narrower in
      let size : (start + r.outputs) - start ≡ r.outputs = omega arith in
      let here : eqb r.state c.args.state ≡ true = grind (arith, nat_tests) in
      let acc = along_on m F.outputs ts c.args.path.now c.loop-rule.path d span x 0 c.if-depth-course.false (omega arith) I.kept (take r.outputs (drop start F.outputs)) (ap (λ n. take n (drop start F.outputs)) size) in
      let added = w.in_ok-add_ways.ensures.adds in
      rw (w.path-is, w.rules-is, w.outputs-is) (
        going_on _ _ _ _ _ _ _ _ _ _ _ _ _ _ _ _ _ _ _ I r c.loop-rule-test.true c.rule-item.is W
            (by_some m _ _ _ _ _ _ w.in-Some.narrower here (sym w.narrowed.ensures ∙ w.in-Some.is)) _ _ _ _
            (subst (λ o. Added (counts (lines c.loop-rule.rules c.loop-rule.outputs)) (counts (lines w.add_ways.new.rules w.add_ways.new.outputs)) (map (raw_line k o) W) (lines c.loop-rule.rules c.loop-rule.outputs).rules.items.now (lines w.add_ways.new.rules w.add_ways.new.outputs).rules.items.now (lines c.loop-rule.rules c.loop-rule.outputs).outputs.items.now (lines w.add_ways.new.rules w.add_ways.new.outputs).outputs.items.now) acc added)
            (path_kept m F.outputs ts c.args.path.now c.loop-rule.path d span x 0 c.if-depth-course.false (omega arith) I.kept w.add_ways.new.path w.in_ok-add_ways.ensures.keeps),
        w.add_ways.ensures.same_rules ∙ c.loop-rule.invariant.1,
        w.add_ways.ensures.same_outputs ∙ c.loop-rule.invariant.2,
      )
  | else-rule-state w ↦
      let other : eqb c.rule-item.result.state c.args.state ≡ false = grind (arith, nat_tests) in
      rw (w.path-is, w.rules-is, w.outputs-is) (
        going_skip _ _ _ _ _ _ _ _ _ _ _ _ _ _ _ _ _ _ _ c.loop-rule.invariant.0 c.rule-item.result c.loop-rule-test.true c.rule-item.is
            (by_other g.A.Alphabet.model _ _ _ _ _ _ other),
        c.loop-rule.invariant.1,
        c.loop-rule.invariant.2,
      )
]

pub returns : goal.returns
returns g t c =
    let m = g.A.Alphabet.model in
    let F = table_of c.args.course.now.second.now.draft in
    let ts = c.args.course.now.terms.now in
    let d = c.args.depth in
    let I = c.loop-rule.invariant.0 in
    let e = drop_more ts d c.index-course-depth.result c.if-depth-course.false in
    record {
      adds = subst (λ l. Added (counts (lines c.args.rules.now c.args.outputs.now)) (counts (lines c.loop-rule.rules c.loop-rule.outputs)) (map (raw_line c.args.course.now.number (along m (take d ts) (map (within F.outputs) (take d c.args.path.now)))) (ways m (lines_of F) l c.args.state c.args.guard)) (lines c.args.rules.now c.args.outputs.now).rules.items.now (lines c.loop-rule.rules c.loop-rule.outputs).rules.items.now (lines c.args.rules.now c.args.outputs.now).outputs.items.now (lines c.loop-rule.rules c.loop-rule.outputs).outputs.items.now)
          (sym e) (going_end _ _ _ _ _ _ _ _ _ _ _ _ _ _ _ _ _ _ _ I c.loop-rule-test.false);
      same_rules = c.loop-rule.invariant.1;
      same_outputs = c.loop-rule.invariant.2;
      keeps = I.kept;
    }
