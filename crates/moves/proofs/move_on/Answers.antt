use Rattle.std.proofs.Common.{ap, ◌∙◌}
use Rattle.machine.specs.Sides.{state_of, onward}
use Rattle.table.specs.Table.{table_of}
use Rattle.table.proofs.Soundness.{sound_from_checked}
use Rattle.filter.specs.Machines.{machine_of}
use Rattle.moves.proofs.Moving.{moved_dead, moved_live}
use Rattle.moves.proofs.move_on.Goals as goal

pub returns-in_err-side : goal.returns-in_err-side
returns-in_err-side g c =
    let m = g.A.Alphabet.model in
    let F = table_of c.args.filter.now.draft in
    rw c.from_residual.ensures (moved_dead m F c.args.side c.args.symbol (ap (λ o. onward (machine_of m F) o c.args.symbol) c.in_err-side.was))

pub returns-in_err-next : goal.returns-in_err-next
returns-in_err-next g c =
    let m = g.A.Alphabet.model in
    let F = table_of c.args.filter.now.draft in
    rw c.from_residual-in_err-next.ensures
    (moved_dead m F c.args.side c.args.symbol (ap (λ o. onward (machine_of m F) o c.args.symbol) c.in_ok-side.was ∙ ap state_of c.in_err-next.ensures.leads))

pub returns : goal.returns
returns g c =
    moved_live g.A.Alphabet.model (table_of c.args.filter.now.draft) c.args.side c.args.symbol (sound_from_checked g.A.Alphabet.model g.A.Alphabet.laws (table_of c.args.filter.now.draft) c.args.filter.now.sound) c.in_ok-side.field-0 c.args.first c.in_ok-side.was c.requires.first
    c.in_ok-next.field-0 c.in_ok-next.ensures.answer c.in_ok-next.ensures.leads
