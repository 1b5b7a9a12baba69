use Rattle.std.proofs.Common.{◌≡◌, sym, subst, rules}
use Rattle.table.specs.Table.{table_of}
use Rattle.holdings.specs.Memory.{memory_of}
use Rattle.holdings.specs.Append.{appended, Adds}
use Rattle.holdings.proofs.Appends.{adds}
use Rattle.holdings.proofs.memory.Shelf.append.Goals as goal

pub returns-clause-adds : goal.returns-clause-adds
returns-clause-adds g c =
    let M = memory_of c.args.self.now in
    let F = table_of c.args.draft.now in
    let memory : _ ≡ appended M F = search rules in
    subst (Adds M F) (sym memory) (adds M F c.requires.fits (sym c.if-not-has_room_for.ensures))
