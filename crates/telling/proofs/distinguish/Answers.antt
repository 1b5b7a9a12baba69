use Rattle.std.proofs.Common.{◌≡◌, ◌≤◌, length, Err, sym, ap, subst, arith}
use Rattle.queue.specs.Held.{entries}
use Rattle.table.specs.Table.{table_of}
use Rattle.steps.specs.Steps.{text}
use Rattle.answers.specs.declared.fault.Fault.TheVariants.{TooShort}
use Rattle.equivalence.specs.Answers.{steps_for, text_in, Early}
use Rattle.equivalence.specs.Decided.{Decided}
use Rattle.shelf_law.specs.Scratch.{scratch_of}
use Rattle.shelf_law.specs.Comparing.{Compared, short_scratch, short_witness, equivalent}
use Rattle.telling.proofs.Witnesses.{long_enough, never_short, told_text}
use Rattle.telling.proofs.distinguish.Goals as goal

pub returns-then-is_short : goal.returns-then-is_short
returns-then-is_short g c = short_scratch (c.is_short.ensures.0 c.if-is_short.true)

pub returns-then-witness-needed : goal.returns-then-witness-needed
returns-then-witness-needed g c =
    let m = g.A.Alphabet.model in
    let F = table_of c.args.left.now.draft in
    let H = table_of c.args.right.now.draft in
    let S = scratch_of (length c.args.steps.now) (length c.args.symbols.now) in
    let w = c.args.witness.now in
    let needed : c.steps-needed.result ≡ steps_for m F H = rw (← c.new-pair.ensures.left, ← c.new-pair.ensures.right) c.steps-needed.ensures in
    subst (λ n. Compared m S F H c.args.number w (Err (TooShort n)) w) (sym needed)
    (short_witness (long_enough m S F H c.is_short.result c.is_short.ensures c.if-is_short.false) (omega (arith, needed, c.if-witness-needed.true)))

pub returns-in_default : goal.returns-in_default
returns-in_default g c =
    let m = g.A.Alphabet.model in
    let F = table_of c.args.left.now.draft in
    let H = table_of c.args.right.now.draft in
    let S = scratch_of (length c.args.steps.now) (length c.args.symbols.now) in
    let enough = long_enough m S F H c.is_short.result c.is_short.ensures c.if-is_short.false in
    let short = c.in_default.ensures.answer in
    let room = c.new-queue.ensures.room in
    absurd (grind (arith, short, enough, room))

pub returns-in_default-answer : goal.returns-in_default-answer
returns-in_default-answer g c =
    let m = g.A.Alphabet.model in
    let F = table_of c.args.left.now.draft in
    let H = table_of c.args.right.now.draft in
    let S = scratch_of (length c.args.steps.now) (length c.args.symbols.now) in
    let L = entries c.compare.new.queue in
    let needed : c.steps-needed.result ≡ steps_for m F H = rw (← c.new-pair.ensures.left, ← c.new-pair.ensures.right) c.steps-needed.ensures in
    let room : steps_for m F H ≤ length c.args.witness.now = omega (arith, needed, c.if-witness-needed.false) in
    equivalent (long_enough m S F H c.is_short.result c.is_short.ensures c.if-is_short.false) room (subst (λ o. Decided m F H (text_in L o)) c.in_default-answer.is c.in-Ok.ensures.decides)

pub returns : goal.returns
returns g c =
    let m = g.A.Alphabet.model in
    let F = table_of c.args.left.now.draft in
    let H = table_of c.args.right.now.draft in
    let S = scratch_of (length c.args.steps.now) (length c.args.symbols.now) in
    let L = entries c.compare.new.queue in
    let k = c.in-Some.step in
    let needed : c.steps-needed.result ≡ steps_for m F H = rw (← c.new-pair.ensures.left, ← c.new-pair.ensures.right) c.steps-needed.ensures in
    let room : steps_for m F H ≤ length c.args.witness.now = omega (arith, needed, c.if-witness-needed.false) in
    let early = subst (λ o. Early (steps_for m F H) L o) c.in-Some.is c.in-Ok.ensures.answer.3 in
    told_text m S F H c.args.number c.args.witness.now (long_enough m S F H c.is_short.result c.is_short.ensures c.if-is_short.false) room L c.entries.result.now k c.entries.ensures
    (subst (λ o. Decided m F H (text_in L o)) c.in-Some.is c.in-Ok.ensures.decides) early.1 c.in-Some-write_text.count c.write_text.new.witness c.in-Some-write_text.ensures.answer c.write_text.ensures.witness

pub returns-in_default-write_text : goal.returns-in_default-write_text
returns-in_default-write_text g c =
    let m = g.A.Alphabet.model in
    let F = table_of c.args.left.now.draft in
    let H = table_of c.args.right.now.draft in
    let L = entries c.compare.new.queue in
    let needed : c.steps-needed.result ≡ steps_for m F H = rw (← c.new-pair.ensures.left, ← c.new-pair.ensures.right) c.steps-needed.ensures in
    let room : steps_for m F H ≤ length c.args.witness.now = omega (arith, needed, c.if-witness-needed.false) in
    let early = subst (λ o. Early (steps_for m F H) L o) c.in-Some.is c.in-Ok.ensures.answer.3 in
    absurd (never_short (text c.entries.result.now c.in-Some.step) (text L c.in-Some.step) c.args.witness.now (ap (λ X. text X c.in-Some.step) c.entries.ensures) (omega (arith, early.1, room)) c.in_default-write_text.ensures.answer)
