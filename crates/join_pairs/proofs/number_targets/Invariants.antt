use Rattle.std.proofs.Common.{◌≡◌}
use Rattle.queue.specs.Held.{entries, room}
use Rattle.join_pairs.proofs.Meetings.{Partly}
use Rattle.join_pairs.proofs.number_targets.Given as goal

abbrev pub invariant-loop-rule : goal.invariant-loop-rule
invariant-loop-rule g l =
    Partly l.first (entries l.initial.queue) l.initial.rules l.rule-index (entries l.queue) l.rules
    × (room l.queue ≡ room l.initial.queue) × (l.queue.taken ≡ l.initial.queue.taken)
