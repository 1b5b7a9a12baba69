use Rattle.std.proofs.Common.{[], sym, subst}
use Rattle.holdings.specs.Memory.{memory_of}
use Rattle.shelf_law.specs.History.{Reached, opening}
use Rattle.shelf_law.proofs.Laws.{law_holds_lem}
use Rattle.shelf.proofs.open.open.Goals as goal

pub returns : goal.returns
returns g c =
    let m = g.A.Alphabet.model in
    let begins = subst (Reached m []) (sym c.open.ensures.memory) (opening c.args.ledger.now c.args.states.now c.args.rules.now c.args.outputs.now) in
    record { memory = c.open.ensures.memory; begins = begins; law = law_holds_lem m g.A.Alphabet.laws [] (memory_of c.open.result) begins }
