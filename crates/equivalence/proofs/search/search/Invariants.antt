use Rattle.std.proofs.Common.{◌≡◌, ◌-◌}
use Rattle.queue.specs.Held.{entries, room}
use Rattle.table.specs.Table.{table_of}
use Rattle.judging.specs.Kept.{Turned}
use Rattle.equivalence.proofs.search.search.Given as goal

abbrev pub invariant-loop-number : goal.invariant-loop-number
invariant-loop-number g l =
    Turned g.A.Alphabet.model (table_of l.pair.left.now.draft) (table_of l.pair.right.now.draft) l.pair.frame.left l.pair.frame.right l.pair.frame.width (entries l.queue) l.cells l.queue.taken
    × (room l.queue ≡ room l.initial.queue)

abbrev pub decreases-loop-number : goal.decreases-loop-number
decreases-loop-number g l = room l.initial.queue - l.queue.taken
