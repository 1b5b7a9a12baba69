use Rattle.std.proofs.Common.{◌+◌, ◌≤◌, vec_items}
use Rattle.holdings.specs.Memory.{memory_of}
use Rattle.shelving.specs.Runs.{Told}
use Rattle.shelving.proofs.pair_texts.tell_pairs.Given as goal

-- the holdings before were told apart from all later ones
abbrev pub invariant-loop-first : goal.invariant-loop-first
invariant-loop-first g l = Told g.A.Alphabet.model (memory_of l.shelf) l.first (l.first + 1) (vec_items l.pairs) × (l.first ≤ l.shelf.head.holdings + 1)
