-- How much memory a caller lends.
use Rattle.std.specs.Prelude.{length}
use Rattle.shelf_law.specs.Scratch as sizes
use Rattle.shelf.specs.declared.lent.Scratch.{Scratch}
use Rattle.shelf.specs.declared.lent.JoinLists.{JoinLists}

abbrev pub lent : Scratch → sizes.Scratch
lent s = record { steps = length s.steps.now; symbols = length s.symbols.now }

abbrev pub lent_lists : {A G T : Type 0} → JoinLists A G T → sizes.Lists
lent_lists l = record { states = length l.states.now; rules = length l.rules.now; outputs = length l.outputs.now; pairs = length l.pairs.now }
