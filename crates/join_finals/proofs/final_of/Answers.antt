use Rattle.std.proofs.Common.{ℕ, ◌+◌, ◌-◌, ◌≤◌, List, length, get_or, take, drop, Some, sym, refl, ap, ◌∙◌, subst, arith, rules}
use Rattle.std.specs.List.{AllByRecursion}
use Rattle.std.proofs.lemmas.List.{length-take}
use Rattle.std.proofs.lemmas.Option.{slice_get-get_or}
use Rattle.machine.specs.Machine.{and_then, prefixed, transduced_from}
use Rattle.table.specs.declared.entries.State.{State}
use Rattle.table.specs.Table.{table_of}
use Rattle.alphabet.specs.Model.{SoundTerm}
use Rattle.filter.specs.Machines.{values_of, machine_of}
use Rattle.filter.proofs.Finals.{final_missing, final_rejects, final_accepts, before, part_at, final_within, final_sound}
use Rattle.filter.specs.Outcomes.{behind}
use Rattle.join_laws.specs.Joined.{final_at}
use Rattle.join_finals.specs.Finals.{Ends}
use Rattle.join_finals.proofs.Short.{final_short}
use Rattle.join_finals.proofs.Steps.{final_ends}
use Rattle.table.proofs.Soundness.{sound_from_checked}
use Rattle.join_finals.proofs.final_of.Goals as goal

-- the state's entry, as the code reads it
abbrev entry : List State → ℕ → State
entry states q = get_or states q (record { mark = 0; finals = 0 })

pub returns-then-state-first : goal.returns-then-state-first
unfolding final_at
returns-then-state-first g c =
    let m = g.A.Alphabet.model in
    ap (λ o. and_then o (λ w. transduced_from (machine_of m (table_of c.args.second.now.draft)) w c.args.pair.1)) (final_missing m (table_of c.args.first.now.draft) c.args.pair.0 c.if-state-first.true)

pub returns-then-entry-ne1 : goal.returns-then-entry-ne1
unfolding final_at
returns-then-entry-ne1 g c =
    let m = g.A.Alphabet.model in
    let F = table_of c.args.first.now.draft in
    let q = c.args.pair.0 in
    let e = final_rejects m F q (entry F.states q) (slice_get-get_or F.states q _ c.if-state-first.false) c.if-entry-ne1.true in
    ap (λ o. and_then o (λ w. transduced_from (machine_of m (table_of c.args.second.now.draft)) w c.args.pair.1)) e

pub offset_bounds-first-from : goal.offset_bounds-first-from
offset_bounds-first-from g c =
    let F = table_of c.args.first.now.draft in
    let q = c.args.pair.0 in
    let is = slice_get-get_or F.states q (record { mark = 0; finals = 0 }) c.if-state-first.false in
    let m = g.A.Alphabet.model in
    omega (arith, final_within m F q (entry F.states q) is (sound_from_checked g.A.Alphabet.model g.A.Alphabet.laws (table_of c.args.first.now.draft) c.args.first.now.sound), before m F q (entry F.states q) is)

pub slice_bounds-run_constants-end : goal.slice_bounds-run_constants-end
slice_bounds-run_constants-end g c =
    let F = table_of c.args.first.now.draft in
    let q = c.args.pair.0 in
    let is = slice_get-get_or F.states q (record { mark = 0; finals = 0 }) c.if-state-first.false in
    let m = g.A.Alphabet.model in
    let end : c.final_total-from.result + (entry F.states q).finals ≤ length F.outputs = omega (arith, final_within m F q (entry F.states q) is (sound_from_checked g.A.Alphabet.model g.A.Alphabet.laws (table_of c.args.first.now.draft) c.args.first.now.sound), before m F q (entry F.states q) is) in
    search rules

pub run_constants-requires : goal.run_constants-requires
run_constants-requires g c =
    let F = table_of c.args.first.now.draft in
    let q = c.args.pair.0 in
    let is = slice_get-get_or F.states q (record { mark = 0; finals = 0 }) c.if-state-first.false in
    let m = g.A.Alphabet.model in
    record {
      terms = subst (AllByRecursion (SoundTerm m)) (sym (part_at m F q (entry F.states q) is c.final_total-from.result c.final_total-from.ensures.total)) (final_sound m F q (entry F.states q) is (sound_from_checked g.A.Alphabet.model g.A.Alphabet.laws (table_of c.args.first.now.draft) c.args.first.now.sound));
      few = simp length-take (omega (arith, (sound_from_checked g.A.Alphabet.model g.A.Alphabet.laws (table_of c.args.first.now.draft) c.args.first.now.sound).short_final q (entry F.states q) is));
      room = c.requires.room;
    }

pub returns-in_err-reached : goal.returns-in_err-reached
unfolding final_at
returns-in_err-reached g c =
    let m = g.A.Alphabet.model in
    let F = table_of c.args.first.now.draft in
    let M = machine_of m (table_of c.args.second.now.draft) in
    let q = c.args.pair.0 in
    let is = slice_get-get_or F.states q (record { mark = 0; finals = 0 }) c.if-state-first.false in
    let part = part_at m F q (entry F.states q) is c.final_total-from.result c.final_total-from.ensures.total in
    let e = final_accepts m F q (entry F.states q) is c.if-entry-ne1.false ∙ ap (λ l. Some (values_of m l 0)) (sym part) in
    rw c.from_residual.ensures (ap (λ o. and_then o (λ w. transduced_from M w c.args.pair.1)) e ∙ ap (λ o. and_then o (λ r. prefixed r.1 (M.final r.0))) c.in_err-reached.ensures.ran)

pub returns : goal.returns
unfolding final_at
returns g c =
    let m = g.A.Alphabet.model in
    let F = table_of c.args.first.now.draft in
    let H = table_of c.args.second.now.draft in
    let M = machine_of m H in
    let q = c.args.pair.0 in
    let is = slice_get-get_or F.states q (record { mark = 0; finals = 0 }) c.if-state-first.false in
    let part = part_at m F q (entry F.states q) is c.final_total-from.result c.final_total-from.ensures.total in
    let e = final_accepts m F q (entry F.states q) is c.if-entry-ne1.false ∙ ap (λ l. Some (values_of m l 0)) (sym part) in
    let ran = c.in_ok-reached.ensures.ran in
    let p = c.in_ok-reached.reached in
    let u = values_of m (take ((c.final_total-from.result + (entry F.states q).finals) - c.final_total-from.result) (drop c.final_total-from.result F.outputs)) 0 in
    let k = final_ends M c.args.pair.1 p c.in_ok-reached.count u c.run_constants.new.out c.finish.new.out (M.final p) ran.0 refl ran.1 (omega (arith, c.requires.room, c.run_constants.auto.out)) (final_short m H (sound_from_checked g.A.Alphabet.model g.A.Alphabet.laws (table_of c.args.second.now.draft) c.args.second.now.sound) p) c.finish.auto.out c.finish.ensures.output in
    subst (λ r. Ends (final_at m F H c.args.pair) c.finish.new.out r) (sym c.finish.ensures.answer)
    (subst (λ o. Ends o c.finish.new.out (behind c.in_ok-reached.count (M.final p))) (sym (ap (λ o. and_then o (λ w. transduced_from M w c.args.pair.1)) e)) k)
