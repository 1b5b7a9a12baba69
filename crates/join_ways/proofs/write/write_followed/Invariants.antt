use Rattle.std.proofs.Common.{take}
use Rattle.join_laws.specs.Ways.{followed_by}
use Rattle.join_ways.specs.Written.{Same}
use Rattle.join_ways.proofs.Splices.{Mid}
use Rattle.join_ways.proofs.write.write_followed.Given as goal

abbrev pub invariant-loop-other : goal.invariant-loop-other
invariant-loop-other g l =
    Mid l.initial.outputs.count l.outputs.count (followed_by g.A.Alphabet.model l.term (take l.other-index l.others)) l.initial.outputs.items.now l.outputs.items.now
    × Same l.initial.outputs l.outputs
