use Rattle.std.proofs.Common.{◌≡◌, ◌-◌, ◌≤◌, ◌++◌, map, length, rules, take, drop, Ok, sym, ap, ◌∙◌, subst, arith}
use Rattle.std.proofs.lemmas.List.{length-map}
use Rattle.std.proofs.lemmas.Result.{err_from_is_err_and}
use Rattle.queue.specs.Held.{room}
use Rattle.table.specs.Table.{table_of}
use Rattle.join_laws.specs.Joined.{lines_for, ways_at, final_at, pairs, joined}
use Rattle.join_laws.proofs.Joining.{joins}
use Rattle.join_laws.specs.Lines.{table_from}
use Rattle.join_ways.specs.Added.{counts, lines}
use Rattle.join_states.specs.Ended.{Room, EndedAll}
use Rattle.join.proofs.Fillings.{added_first, fits_first, fits_lines, fits_finals, all_written, written_same}
use Rattle.table.proofs.Soundness.{sound_from_checked}
use Rattle.join.proofs.fill.Goals as goal

pub returns-in_err-explore : goal.returns-in_err-explore
unfolding joined
returns-in_err-explore g c =
    let m = g.A.Alphabet.model in
    let law = g.A.Alphabet.laws in
    let F = table_of c.args.first.now.draft in
    let H = table_of c.args.second.now.draft in
    let ok_f = sound_from_checked m law F c.args.first.now.sound in
    let ok_h = sound_from_checked m law H c.args.second.now.sound in
    let P = pairs m F H in
    let fs = map (final_at m F H) P in
    let ls = lines_for (ways_at m F H) P 0 P in
    let R = c.args.rules.now in
    let O = c.args.outputs.now in
    let L = lines c.new-lines.result c.new-terms.result in
    let over = c.in_err-explore.ensures.explores in
    let r = err_from_is_err_and c.from_residual.result c.from_residual.ensures.1 in
    record {
      fills = rw r.1 (λ f. over (simp (length-map) at f.states) (fits_first ls L R O c.new-lines.ensures.empty c.new-terms.ensures.empty c.new-lines.ensures.items c.new-terms.ensures.items (fits_lines m fs ls (room c.args.queue.now) R O f)));
      composes = joins m law F H ok_f ok_h;
    }

pub returns-in_err-add_states : goal.returns-in_err-add_states
unfolding joined
returns-in_err-add_states g c =
    let m = g.A.Alphabet.model in
    let law = g.A.Alphabet.laws in
    let F = table_of c.args.first.now.draft in
    let H = table_of c.args.second.now.draft in
    let ok_f = sound_from_checked m law F c.args.first.now.sound in
    let ok_h = sound_from_checked m law H c.args.second.now.sound in
    let P = pairs m F H in
    let f = final_at m F H in
    let fs = map f P in
    let ls = lines_for (ways_at m F H) P 0 P in
    let R = c.args.rules.now in
    let O = c.args.outputs.now in
    let top = room c.args.queue.now in
    let L = lines c.new-lines.result c.new-terms.result in
    let L₁ = lines c.explore.new.rules c.explore.new.outputs in
    let ex = c.in_ok-explore.ensures.explores in
    let added = added_first ls L R O c.new-lines.ensures.empty c.new-terms.ensures.empty c.new-lines.ensures.items c.new-terms.ensures.items L₁ ex.2 in
    let same : c.entries.result.now ≡ P = c.entries.ensures ∙ ex.0 in
    let over = subst (λ ps. Room m L₁.outputs.count (map f ps) L₁.outputs.items.now → ⊥) same c.in_err-add_states.ensures.ended in
    let r = err_from_is_err_and c.from_residual-in_err-add_states.result c.from_residual-in_err-add_states.ensures.1 in
    record { fills = rw r.1 (λ fit. over (fits_finals m fs ls top R O (counts L₁) L₁.rules.items.now L₁.outputs.items.now added fit)); composes = joins m law F H ok_f ok_h }

pub slice_bounds-rotate_left-end : goal.slice_bounds-rotate_left-end
slice_bounds-rotate_left-end g c =
    let back = c.outputs-2-1.given.1.1 (sym (c.add_states.ensures.same ∙ c.explore.ensures.same_outputs ∙ c.new-terms.ensures.same)) ∙ c.finish-2.ensures.items in
    let fits : c.add_states.new.outputs.count ≤ length c.add_states.new.outputs.items.now = c.add_states.new.outputs.fits in
    let end : c.finish-2.result ≤ length c.outputs-2-1.given.0 = omega (arith, ap length back, c.finish-2.ensures.count) in
    search rules

pub returns : goal.returns
unfolding joined
returns g c =
    let m = g.A.Alphabet.model in
    let law = g.A.Alphabet.laws in
    let F = table_of c.args.first.now.draft in
    let H = table_of c.args.second.now.draft in
    let ok_f = sound_from_checked m law F c.args.first.now.sound in
    let ok_h = sound_from_checked m law H c.args.second.now.sound in
    let P = pairs m F H in
    let f = final_at m F H in
    let fs = map f P in
    let ls = lines_for (ways_at m F H) P 0 P in
    let R = c.args.rules.now in
    let O = c.args.outputs.now in
    let top = room c.args.queue.now in
    let L = lines c.new-lines.result c.new-terms.result in
    let L₁ = lines c.explore.new.rules c.explore.new.outputs in
    let d = counts L₁ in
    let R₁ = c.explore.new.rules.items.now in
    let O₁ = c.explore.new.outputs.items.now in
    let ex = c.in_ok-explore.ensures.explores in
    let added = added_first ls L R O c.new-lines.ensures.empty c.new-terms.ensures.empty c.new-lines.ensures.items c.new-terms.ensures.items L₁ ex.2 in
    let same : c.entries.result.now ≡ P = c.entries.ensures ∙ ex.0 in
    let n = c.made.result in
    let total = c.add_states.new.outputs.count in
    let S = c.args.states.now in
    let S₁ = c.add_states.new.states in
    let O₂ = c.add_states.new.outputs.items.now in
    let Z = c.rotate_left.new.self in
    let back_r : c.rules-2-1.given.0 ≡ R₁ = c.rules-2-1.given.1.1 (sym (c.explore.ensures.same_rules ∙ c.new-lines.ensures.same)) ∙ c.finish.ensures.items in
    let back_o : c.outputs-2-1.given.0 ≡ O₂ = c.outputs-2-1.given.1.1 (sym (c.add_states.ensures.same ∙ c.explore.ensures.same_outputs ∙ c.new-terms.ensures.same)) ∙ c.finish-2.ensures.items in
    let zero : c.finish-2.result - 0 ≡ total = omega (arith, c.finish-2.ensures.count) in
    let fin : EndedAll m fs S S₁ L₁.outputs c.add_states.new.outputs (Ok tt) = subst (λ ps. EndedAll m (map f ps) S S₁ L₁.outputs c.add_states.new.outputs (Ok tt)) same c.in_ok-add_states.ensures.ended in
    let size : length fs ≡ length P = length-map P f in
    let count : n ≡ length fs = c.made.ensures ∙ ap length ex.0 ∙ sym size in
    let after : Z ≡ drop d.outputs (take total O₂) ++ take d.outputs (take total O₂) =
    c.rotate_left.ensures.after ∙ ap (λ i. drop d.outputs (take i c.outputs-2-1.given.0) ++ take d.outputs (take i c.outputs-2-1.given.0)) zero ∙ ap (λ x. drop d.outputs (take total x) ++ take d.outputs (take total x)) back_o in
    record {
      fills = written_same (table_from m fs ls) top n d.rules c.finish.result total c.finish-2.result (c.finish-2.result - 0) S S₁ R R₁ c.rules-2-1.given.0 O O₂ c.outputs-2-1.given.0 Z
          c.finish.ensures.count c.finish-2.ensures.count zero back_r back_o
          (all_written m fs ls top R O d R₁ O₁ added n total S S₁ O₂ Z (omega (arith, size, ap length ex.0, ex.1)) count fin.0 fin.1 fin.2 fin.3 after);
      composes = joins m law F H ok_f ok_h;
    }
