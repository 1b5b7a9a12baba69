use Rattle.std.proofs.Common.{map, take}
use Rattle.join_ways.specs.Written.{Same}
use Rattle.join_ways.proofs.Splices.{Mid}
use Rattle.join_states.proofs.write_constants.Given as goal

abbrev pub invariant-loop-symbol : goal.invariant-loop-symbol
invariant-loop-symbol g l =
    Mid l.initial.outputs.count l.outputs.count (map g.A.Alphabet.model.constant (take l.symbol-index l.symbols)) l.initial.outputs.items.now l.outputs.items.now
    × Same l.initial.outputs l.outputs
