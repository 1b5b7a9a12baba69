use Rattle.std.proofs.Common.{length, ap, ◌∙◌, subst}
use Rattle.table.specs.Table.{table_of}
use Rattle.holdings.specs.Memory.{memory_of, holding}
use Rattle.join_laws.specs.Joined.{joined}
use Rattle.join.specs.Filled.{Answers}
use Rattle.joining.proofs.compose_views.Goals as goal

pub returns : goal.returns
returns g c =
    let m = g.A.Alphabet.model in
    let M = memory_of c.args.shelf.now.shelf.now in
    let J = ap (λ X. joined m X (table_of c.filter-second.result.draft)) c.filter-first.ensures ∙ ap (joined m (holding M c.args.i)) c.filter-second.ensures in
    subst (λ X. Answers X (length c.args.pairs.now) c.args.states.now c.join.new.states c.args.rules.now c.join.new.rules c.args.outputs.now c.join.new.outputs c.join.result) J c.join.ensures.joins
