use Rattle.std.proofs.Common.{ap, ◌∙◌}
use Rattle.table.specs.Check.{checked}
use Rattle.holdings.specs.Memory.{memory_of}
use Rattle.holdings.proofs.ReadThrough.{readable_fits, readable_holdings}
use Rattle.holdings.proofs.reading.Readable.filter.Goals as goal

pub view-requires : goal.view-requires
view-requires g c = record { fits = readable_fits g.A.Alphabet.model (memory_of c.args.self.now.shelf.now) c.args.self.now.readable; within = c.requires }

pub invariant_of-result : goal.invariant_of-result
invariant_of-result g c =
    let m = g.A.Alphabet.model in
    record { sound = ap (checked m) c.view.ensures ∙ readable_holdings m (memory_of c.args.self.now.shelf.now) c.args.self.now.readable c.args.i c.requires }
