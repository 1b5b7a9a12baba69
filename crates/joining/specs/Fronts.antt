-- The table at the front of three lists.
use Rattle.std.specs.Prelude.{List, take}
use Rattle.table.specs.declared.entries.State.{State}
use Rattle.table.specs.declared.entries.Rule.{Rule}
use Rattle.table.specs.Table.{Table}
use Rattle.join.specs.declared.Sizes.{Sizes}

abbrev pub front_of_lem : {G T : Type 0} → List State → List (Rule G) → List T → Sizes → Table G T
front_of_lem states rules outputs n = record { states = take n.states states; rules = take n.rules rules; outputs = take n.outputs outputs }
