use Rattle.std.proofs.Common.{◌≡◌, true, false, Some, None, sym, refl, ◌∙◌, arith}
use Rattle.std.proofs.lemmas.List.{at_drop_all}
use Rattle.std.proofs.lemmas.Option.{slice_get_read}
use Rattle.std.proofs.lemmas.Bool.Decides.{nat_tests}
use Rattle.table.specs.Table.{table_of}
use Rattle.table.proofs.Outputs.{total_more}
use Rattle.table.proofs.Soundness.{sound_from_checked}
use Rattle.filter.specs.Machines.{applies, found}
use Rattle.filter.proofs.Finds.{found_here, found_later, found_leads}
use Rattle.filter.proofs.walk.find.Goals as goal
use Rattle.filter.proofs.walk.find.Goals.{else-rule-state-via-then-rule-state+else-holds, else-rule-state-via-else-rule-state}

pub holds-requires : goal.holds-requires
holds-requires g c =
    let rules = c.args.filter.now.draft.rules.now in
    let sound = sound_from_checked g.A.Alphabet.model g.A.Alphabet.laws (table_of c.args.filter.now.draft) c.args.filter.now.sound in
    record {
      sound = sound.guard c.loop-number.number c.rule-item.result (slice_get_read rules _ c.loop-number.number c.rule-item.result refl c.loop-number-test.true c.rule-item.is);
    }

pub returns-then-holds : goal.returns-then-holds
returns-then-holds g c =
    let m = g.A.Alphabet.model in
    let here : applies m c.args.state c.args.symbol c.rule-item.result ≡ true = grind (arith, nat_tests) in
    let e = sym (found_here m c.args.state c.args.symbol c.args.filter.now.draft.rules.now c.loop-number.number c.loop-number.from c.rule-item.result c.loop-number-test.true c.rule-item.is here) ∙ c.loop-number.invariant.1 in
    record { answer = e; leads = found_leads m c.args.state c.args.symbol (table_of c.args.filter.now.draft) (sound_from_checked g.A.Alphabet.model g.A.Alphabet.laws (table_of c.args.filter.now.draft) c.args.filter.now.sound) c.args.first c.requires.first (Some _) e }

pub loop-number-preserved : goal.loop-number-preserved
loop-number-preserved g c =
    let m = g.A.Alphabet.model in
    let rules = c.args.filter.now.draft.rules.now in
    let more = total_more m rules c.args.filter.now.draft.outputs.now c.loop-number.from c.loop-number.number c.rule-item.result c.loop-number-test.true c.rule-item.is in
    let not-here : applies m c.args.state c.args.symbol c.rule-item.result ≡ false = elim c.else-rule-state.branch [
      | else-rule-state-via-then-rule-state+else-holds w ↦ grind (arith, nat_tests)
      | else-rule-state-via-else-rule-state w ↦ grind (arith, nat_tests)
    ] in
    (omega arith, sym (found_later m c.args.state c.args.symbol rules c.loop-number.number c.loop-number.from c.rule-item.result c.loop-number-test.true c.rule-item.is not-here) ∙ c.loop-number.invariant.1)

pub returns : goal.returns
returns g c =
    let m = g.A.Alphabet.model in
    let e = sym (at_drop_all (found m c.args.state c.args.symbol c.loop-number.number c.loop-number.from) c.args.filter.now.draft.rules.now c.loop-number.number c.loop-number-test.false) ∙ c.loop-number.invariant.1 in
    record { answer = e; leads = found_leads m c.args.state c.args.symbol (table_of c.args.filter.now.draft) (sound_from_checked g.A.Alphabet.model g.A.Alphabet.laws (table_of c.args.filter.now.draft) c.args.filter.now.sound) c.args.first c.requires.first None e }
