use Rattle.std.proofs.Common.{Some, None, refl, arith}
use Rattle.queue.specs.Held.{entries}
use Rattle.table.specs.Table.{table_of}
use Rattle.steps.specs.Steps.{text}
use Rattle.placing.proofs.Decisions.{decided}
use Rattle.placing.proofs.doubles.are_equivalent.Goals as goal

pub returns-in_default : goal.returns-in_default
returns-in_default g c =
    let short = c.in_default.ensures.answer in
    let enough = c.requires.enough in
    let room = c.new-queue.ensures.room in
    absurd (grind (arith, short, enough, room))

pub returns-in-None : goal.returns-in-None
returns-in-None g c =
    let told = decided g.A.Alphabet.model (table_of c.args.left.now.draft) (table_of c.args.right.now.draft) (entries c.compare.new.queue) c.in-Ok.answer None c.in-None.is c.in-Ok.ensures.decides in
    (λ _. told, λ _. refl)

pub returns-in-Some : goal.returns-in-Some
returns-in-Some g c =
    let told = decided g.A.Alphabet.model (table_of c.args.left.now.draft) (table_of c.args.right.now.draft) (entries c.compare.new.queue) c.in-Ok.answer (Some c.in-Some.field-0) c.in-Some.is c.in-Ok.ensures.decides in
    (λ t. absurd (grind (arith, t)), λ e. absurd (told.0 (e (text (entries c.compare.new.queue) c.in-Some.field-0))))
