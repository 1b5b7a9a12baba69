use Rattle.std.proofs.Common.{map, take}
use Rattle.join_ways.specs.Written.{Same}
use Rattle.join_ways.specs.Paths.{within, along}
use Rattle.join_ways.proofs.Splices.{Mid}
use Rattle.join_ways.proofs.write.write_along.Given as goal

abbrev pub invariant-loop-depth : goal.invariant-loop-depth
invariant-loop-depth g l =
    Mid l.initial.outputs.count l.outputs.count (along g.A.Alphabet.model (take l.depth l.terms) (take l.depth (map (within l.second) l.path))) l.initial.outputs.items.now l.outputs.items.now
    × Same l.initial.outputs l.outputs
