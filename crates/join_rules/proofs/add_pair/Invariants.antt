use Rattle.std.proofs.Common.{◌≡◌}
use Rattle.queue.specs.Held.{entries, room}
use Rattle.table.specs.Table.{table_of}
use Rattle.join_ways.specs.Written.{Same}
use Rattle.join_ways.specs.Added.{counts, lines}
use Rattle.join_rules.proofs.Turns.{Walking}
use Rattle.join_rules.proofs.add_pair.Given as goal

abbrev pub invariant-loop-rule : goal.invariant-loop-rule
invariant-loop-rule g l =
    Walking g.A.Alphabet.model (table_of l.first.draft) (table_of l.second.draft) l.pair l.number (room l.initial.queue) (entries l.initial.queue) (counts (lines l.initial.rules l.initial.outputs)) (lines l.initial.rules l.initial.outputs).rules.items.now (lines l.initial.rules l.initial.outputs).outputs.items.now
    l.rule-index l.start (counts (lines l.rules l.outputs)) (entries l.queue) (lines l.rules l.outputs).rules.items.now (lines l.rules l.outputs).outputs.items.now
    × (room l.queue ≡ room l.initial.queue) × (l.queue.taken ≡ l.initial.queue.taken) × Same l.initial.rules l.rules × Same l.initial.outputs l.outputs
