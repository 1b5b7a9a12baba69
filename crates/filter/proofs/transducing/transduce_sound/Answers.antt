use Rattle.std.proofs.Common.{◌+◌, ◌≤◌, length, Ok, sym, refl, ap, ◌∙◌, arith}
use Rattle.table.specs.Table.{table_of}
use Rattle.filter.specs.declared.outcome.Outcome.TheVariants.{Written}
use Rattle.filter.specs.Machines.{machine_of}
use Rattle.filter.specs.Outcomes.{ended, finished, put, output_after}
use Rattle.filter.proofs.Transduces.{behind_none, behind_some, answer_rejected, answer_written, output_written}
use Rattle.filter.proofs.transducing.transduce_sound.Goals as goal

pub returns-in_default : goal.returns-in_default
returns-in_default g c =
    let M = machine_of g.A.Alphabet.model (table_of c.args.filter.now.draft) in
    let through = sym c.walk.ensures.answer ∙ c.in-Ok.is in
    let none = behind_none c.in-Ok.end.1 (M.final c.in-Ok.end.0) (sym c.finish.ensures.answer ∙ c.in_default.is) in
    record {
      answer = sym (answer_rejected M c.args.text.now c.if-text-gt-MOST_SYMBOLS.false c.in-Ok.end.0 c.in-Ok.end.1 through (length c.args.out.now) none);
      output = refl;
    }

pub returns : goal.returns
returns g c =
    let M = machine_of g.A.Alphabet.model (table_of c.args.filter.now.draft) in
    let text = c.args.text.now in
    let p = c.in-Ok.end.0 in
    let n = c.in-Ok.end.1 in
    let out = c.args.out.now in
    let through = sym c.walk.ensures.answer ∙ c.in-Ok.is in
    let some = behind_some n c.in-Some.needed (M.final p) (sym c.finish.ensures.answer ∙ c.in-Some.is) in
    let room : n + length some.0 ≤ length out = omega (arith, some.2) in
    record {
      answer = ap (λ k. Ok (Written p k)) (sym some.2) ∙ sym (answer_written M text c.if-text-gt-MOST_SYMBOLS.false p n through some.0 some.1 (length out) room);
      output =
          c.finish-2.ensures.output
          ∙ ap (λ o. finished n o c.walk-2.new.out) some.1
          ∙ ap (put n some.0) c.walk-2.ensures.output
          ∙ output_written M text c.if-text-gt-MOST_SYMBOLS.false p n through some.0 some.1 out room
          ∙ ap (λ k. output_after (Ok (Written p k)) (ended M text) out) some.2;
    }
