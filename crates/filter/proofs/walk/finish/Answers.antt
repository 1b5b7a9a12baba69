use Rattle.std.proofs.Common.{ℕ, ◌+◌, List, length, get_or, Some, sym, ap, ◌∙◌, subst, arith}
use Rattle.std.specs.List.{AllByRecursion}
use Rattle.std.proofs.lemmas.List.{length-take}
use Rattle.std.proofs.lemmas.Option.{slice_get-get_or}
use Rattle.table.specs.declared.entries.State.{State}
use Rattle.table.specs.Table.{table_of}
use Rattle.table.proofs.Soundness.{sound_from_checked}
use Rattle.alphabet.specs.Model.{SoundTerm}
use Rattle.filter.specs.Machines.{values_of}
use Rattle.filter.specs.Outcomes.{put, behind, finished}
use Rattle.filter.proofs.Finals.{final_missing, final_rejects, final_accepts, part_at, final_sound}
use Rattle.filter.proofs.walk.finish.Goals as goal

pub returns-then-state-filter : goal.returns-then-state-filter
returns-then-state-filter g c =
    let e = final_missing g.A.Alphabet.model (table_of c.args.filter.now.draft) c.args.state c.if-state-filter.true in
    record { answer = ap (behind c.args.at) (sym e); output = ap (λ o. finished c.args.at o c.args.out.now) (sym e) }

-- the state's entry, as the code reads it
abbrev entry : List State → ℕ → State
entry states q = get_or states q (record { mark = 0; finals = 0 })

pub returns-then-entry-ne1 : goal.returns-then-entry-ne1
returns-then-entry-ne1 g c =
    let F = table_of c.args.filter.now.draft in
    let q = c.args.state in
    let e = final_rejects g.A.Alphabet.model F q (entry F.states q) (slice_get-get_or F.states q _ c.if-state-filter.false) c.if-entry-ne1.true in
    record { answer = ap (behind c.args.at) (sym e); output = ap (λ o. finished c.args.at o c.args.out.now) (sym e) }

pub emit-requires : goal.emit-requires
emit-requires g c =
    let F = table_of c.args.filter.now.draft in
    let q = c.args.state in
    let is = slice_get-get_or F.states q (record { mark = 0; finals = 0 }) c.if-state-filter.false in
    let m = g.A.Alphabet.model in
    let sound = sound_from_checked g.A.Alphabet.model g.A.Alphabet.laws (table_of c.args.filter.now.draft) c.args.filter.now.sound in
    record {
      sound = subst (AllByRecursion (SoundTerm m)) (sym (part_at m F q (entry F.states q) is c.final_total-from.result c.final_total-from.ensures.total)) (final_sound m F q (entry F.states q) is sound);
      fits = simp length-take (omega (arith, sound.short_final q (entry F.states q) is));
    }

pub returns : goal.returns
returns g c =
    let F = table_of c.args.filter.now.draft in
    let q = c.args.state in
    let is = slice_get-get_or F.states q (record { mark = 0; finals = 0 }) c.if-state-filter.false in
    let m = g.A.Alphabet.model in
    let part = part_at m F q (entry F.states q) is c.final_total-from.result c.final_total-from.ensures.total in
    let e = final_accepts m F q (entry F.states q) is c.if-entry-ne1.false in
    let v = ap (λ l. values_of m l 0) part in
    record {
      answer = ap Some (c.emit.ensures.count ∙ ap (λ w. c.args.at + length w) v) ∙ ap (behind c.args.at) (sym e);
      output = c.emit.ensures.output ∙ ap (λ w. put c.args.at w c.args.out.now) v ∙ ap (λ o. finished c.args.at o c.args.out.now) (sym e);
    }
