use Rattle.std.proofs.Common.{◌≡◌, ◌+◌, ◌≤◌, length, vec_items}
use Rattle.holdings.specs.Memory.{memory_of}
use Rattle.shelving.specs.Runs.{Told}
use Rattle.shelving.proofs.pair_texts.tell_row.Given as goal

-- the pairs before were told apart
abbrev pub invariant-loop-second : goal.invariant-loop-second
invariant-loop-second g l =
    (length l.witness ≡ length l.initial.witness)
    × Told g.A.Alphabet.model (memory_of l.shelf) l.first l.second (vec_items l.pairs)
    × (l.second ≤ l.shelf.head.holdings + 1)
