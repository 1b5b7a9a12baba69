use Rattle.std.proofs.Common.{map}
use Rattle.table.specs.Table.{table_of}
use Rattle.join_laws.specs.Joined.{final_at}
use Rattle.join_ways.specs.Written.{Same}
use Rattle.join_states.proofs.Endings.{Ending}
use Rattle.join_states.proofs.add_states.Given as goal

abbrev pub invariant-loop-number : goal.invariant-loop-number
invariant-loop-number g l =
    let m = g.A.Alphabet.model in
    Ending m l.initial.outputs.count (map (final_at m (table_of l.first.draft) (table_of l.second.draft)) l.pairs) l.initial.states l.initial.outputs.items.now l.number l.outputs.count l.states l.outputs.items.now
    × Same l.initial.outputs l.outputs
