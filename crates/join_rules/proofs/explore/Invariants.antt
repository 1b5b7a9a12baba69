use Rattle.std.proofs.Common.{◌≡◌, ◌-◌}
use Rattle.queue.specs.Held.{entries, room}
use Rattle.table.specs.Table.{table_of}
use Rattle.join_ways.specs.Written.{Same}
use Rattle.join_ways.specs.Added.{counts, lines}
use Rattle.join_rules.proofs.Explorings.{Exploring}
use Rattle.join_rules.proofs.explore.Given as goal

abbrev pub invariant-loop-number : goal.invariant-loop-number
invariant-loop-number g l =
    Exploring g.A.Alphabet.model (table_of l.first.draft) (table_of l.second.draft) (room l.initial.queue) (counts (lines l.initial.rules l.initial.outputs)) (lines l.initial.rules l.initial.outputs).rules.items.now (lines l.initial.rules l.initial.outputs).outputs.items.now
    l.queue.taken (entries l.queue) (counts (lines l.rules l.outputs)) (lines l.rules l.outputs).rules.items.now (lines l.rules l.outputs).outputs.items.now
    × (room l.queue ≡ room l.initial.queue) × Same l.initial.rules l.rules × Same l.initial.outputs l.outputs

abbrev pub decreases-loop-number : goal.decreases-loop-number
decreases-loop-number g l = room l.queue - l.queue.taken
