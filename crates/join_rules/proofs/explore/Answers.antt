use Rattle.std.proofs.Common.{◌<◌, ◌≤◌, map, length, get_or, sym, refl, ap, ◌∙◌, subst, arith, rules}
use Rattle.std.proofs.lemmas.Result.{err_from_is_err_and}
use Rattle.queue.specs.Held.{entries, room}
use Rattle.table.specs.Table.{table_of}
use Rattle.join_laws.specs.Pairs.{met_all}
use Rattle.join_laws.specs.Joined.{numbered, ways_at}
use Rattle.join_ways.specs.Added.{lines, Fits, counts}
use Rattle.join_rules.specs.PairRules.{targets}
use Rattle.join_rules.proofs.Walkings.{Took}
use Rattle.join_rules.proofs.Explorings.{Exploring, exploring_start, exploring_end, exploring_next, exploring_refused}
use Rattle.table.proofs.Soundness.{sound_from_checked}
use Rattle.join_rules.proofs.explore.Goals as goal

pub loop-number-init : goal.loop-number-init
loop-number-init g c =
    let m = g.A.Alphabet.model in
    let start = exploring_start m g.A.Alphabet.laws (table_of c.args.first.now.draft) (table_of c.args.second.now.draft) (sound_from_checked g.A.Alphabet.model g.A.Alphabet.laws (table_of c.args.first.now.draft) c.args.first.now.sound) (sound_from_checked g.A.Alphabet.model g.A.Alphabet.laws (table_of c.args.second.now.draft) c.args.second.now.sound) (room c.args.queue.now) (counts (lines c.args.rules.now c.args.outputs.now)) (lines c.args.rules.now c.args.outputs.now).rules.items.now (lines c.args.rules.now c.args.outputs.now).outputs.items.now c.requires.fits (lines c.args.rules.now c.args.outputs.now).rules.fits (lines c.args.rules.now c.args.outputs.now).outputs.fits in
    (rw (c.requires.start, c.requires.waits) start, refl, refl, refl)

pub overflow_cast-number : goal.overflow_cast-number
overflow_cast-number g c =
    let n = c.in-Some.ensures.answer in
    let low : c.in-Some.number < 64 = omega (arith, n.1, c.loop-number.invariant.0.low, c.requires.few) in
    search rules

pub add_pair-requires : goal.add_pair-requires
add_pair-requires g c =
    let I = c.loop-number.invariant in
    let e = c.in-Some.ensures in
    record {
      few = omega (arith, e.room, I.1, c.requires.few);
      path = omega (arith, c.requires.path);
    }

pub returns-in_err-add_pair : goal.returns-in_err-add_pair
returns-in_err-add_pair g c =
    let m = g.A.Alphabet.model in
    let F = table_of c.args.first.now.draft in
    let H = table_of c.args.second.now.draft in
    let I = c.loop-number.invariant in
    let k = c.loop-number.queue.taken in
    let P = entries c.loop-number.queue in
    let e = c.in-Some.ensures in
    let n = e.answer in
    let ws = ways_at m F H c.in-Some.pair in
    let h : k < length P = omega (arith, n.0, n.1) in
    let is = n.2 (0, 0) ∙ ap (λ i. get_or P i (0, 0)) n.0 in
    let over = c.in_err-add_pair.ensures.takes in
    let r = err_from_is_err_and c.from_residual.result c.from_residual.ensures.1 in
    let over₁ = subst (λ Q. length (met_all Q (targets ws)) ≤ room c.next.new.self → Fits (counts (lines c.loop-number.rules c.loop-number.outputs)) (map (numbered (met_all Q (targets ws)) c.in-Some.number) ws) (lines c.loop-number.rules c.loop-number.outputs).rules.items.now (lines c.loop-number.rules c.loop-number.outputs).outputs.items.now → ⊥) e.entries over in
    let over₂ = subst (λ i. length (met_all P (targets ws)) ≤ room c.next.new.self → Fits (counts (lines c.loop-number.rules c.loop-number.outputs)) (map (numbered (met_all P (targets ws)) i) ws) (lines c.loop-number.rules c.loop-number.outputs).rules.items.now (lines c.loop-number.rules c.loop-number.outputs).outputs.items.now → ⊥) n.0 over₁ in
    record {
      explores = rw r.1 (exploring_refused m g.A.Alphabet.laws F H (sound_from_checked g.A.Alphabet.model g.A.Alphabet.laws (table_of c.args.first.now.draft) c.args.first.now.sound) (sound_from_checked g.A.Alphabet.model g.A.Alphabet.laws (table_of c.args.second.now.draft) c.args.second.now.sound) (room c.args.queue.now) (counts (lines c.args.rules.now c.args.outputs.now)) (lines c.args.rules.now c.args.outputs.now).rules.items.now (lines c.args.rules.now c.args.outputs.now).outputs.items.now k P (counts (lines c.loop-number.rules c.loop-number.outputs)) (lines c.loop-number.rules c.loop-number.outputs).rules.items.now (lines c.loop-number.rules c.loop-number.outputs).outputs.items.now I.0 c.in-Some.pair h is
          (λ low. over₂ (omega (arith, low, e.room, I.1))));
      room = c.add_pair.ensures.room ∙ e.room ∙ I.1;
      same_rules = c.add_pair.ensures.same_rules ∙ I.2;
      same_outputs = c.add_pair.ensures.same_outputs ∙ I.3;
    }

pub loop-number-preserved : goal.loop-number-preserved
loop-number-preserved g c =
    let m = g.A.Alphabet.model in
    let F = table_of c.args.first.now.draft in
    let H = table_of c.args.second.now.draft in
    let I = c.loop-number.invariant in
    let k = c.loop-number.queue.taken in
    let P = entries c.loop-number.queue in
    let e = c.in-Some.ensures in
    let n = e.answer in
    let ws = ways_at m F H c.in-Some.pair in
    let h : k < length P = omega (arith, n.0, n.1) in
    let is = n.2 (0, 0) ∙ ap (λ i. get_or P i (0, 0)) n.0 in
    let t = c.in_ok-add_pair.ensures.takes in
    let d = counts (lines c.add_pair.new.rules c.add_pair.new.outputs) in
    let P₂ = entries c.add_pair.new.queue in
    let R₂ = (lines c.add_pair.new.rules c.add_pair.new.outputs).rules.items.now in
    let O₂ = (lines c.add_pair.new.rules c.add_pair.new.outputs).outputs.items.now in
    let took : Took c.in-Some.number ws P (room c.args.queue.now) (counts (lines c.loop-number.rules c.loop-number.outputs)) d (lines c.loop-number.rules c.loop-number.outputs).rules.items.now (lines c.loop-number.rules c.loop-number.outputs).outputs.items.now P₂ R₂ O₂ =
    (t.0 ∙ ap (λ l. met_all l (targets ws)) e.entries, omega (arith, t.1, e.room, I.1), t.2) in
    let next = exploring_next m g.A.Alphabet.laws F H (sound_from_checked g.A.Alphabet.model g.A.Alphabet.laws (table_of c.args.first.now.draft) c.args.first.now.sound) (sound_from_checked g.A.Alphabet.model g.A.Alphabet.laws (table_of c.args.second.now.draft) c.args.second.now.sound) (room c.args.queue.now) (counts (lines c.args.rules.now c.args.outputs.now)) (lines c.args.rules.now c.args.outputs.now).rules.items.now (lines c.args.rules.now c.args.outputs.now).outputs.items.now k P (counts (lines c.loop-number.rules c.loop-number.outputs)) (lines c.loop-number.rules c.loop-number.outputs).rules.items.now (lines c.loop-number.rules c.loop-number.outputs).outputs.items.now I.0 c.in-Some.pair h is d P₂ R₂ O₂
    (subst (λ i. Took i ws P (room c.args.queue.now) (counts (lines c.loop-number.rules c.loop-number.outputs)) d (lines c.loop-number.rules c.loop-number.outputs).rules.items.now (lines c.loop-number.rules c.loop-number.outputs).outputs.items.now P₂ R₂ O₂) n.0 took) in (
      subst (λ i. Exploring m F H (room c.args.queue.now) (counts (lines c.args.rules.now c.args.outputs.now)) (lines c.args.rules.now c.args.outputs.now).rules.items.now (lines c.args.rules.now c.args.outputs.now).outputs.items.now i P₂ d R₂ O₂) (sym (c.add_pair.ensures.taken ∙ e.taken)) next,
      c.add_pair.ensures.room ∙ e.room ∙ I.1,
      c.add_pair.ensures.same_rules ∙ I.2,
      c.add_pair.ensures.same_outputs ∙ I.3,
    )

pub returns : goal.returns
returns g c =
    let m = g.A.Alphabet.model in
    let F = table_of c.args.first.now.draft in
    let H = table_of c.args.second.now.draft in
    let I = c.loop-number.invariant in
    let e = c.in_default.ensures in
    let done = exploring_end m g.A.Alphabet.laws F H (sound_from_checked g.A.Alphabet.model g.A.Alphabet.laws (table_of c.args.first.now.draft) c.args.first.now.sound) (sound_from_checked g.A.Alphabet.model g.A.Alphabet.laws (table_of c.args.second.now.draft) c.args.second.now.sound) (room c.args.queue.now) (counts (lines c.args.rules.now c.args.outputs.now)) (lines c.args.rules.now c.args.outputs.now).rules.items.now (lines c.args.rules.now c.args.outputs.now).outputs.items.now c.loop-number.queue.taken (entries c.loop-number.queue) (counts (lines c.loop-number.rules c.loop-number.outputs)) (lines c.loop-number.rules c.loop-number.outputs).rules.items.now (lines c.loop-number.rules c.loop-number.outputs).outputs.items.now I.0 (omega (arith, e.answer)) in
    record {
      explores = (e.entries ∙ done.0, omega (arith, ap length e.entries, I.0.low), done.1);
      room = e.room ∙ I.1;
      same_rules = I.2;
      same_outputs = I.3;
    }
