use Rattle.std.proofs.Common.{ℕ, ◌<◌}
use Rattle.table.specs.Table.{table_of}
use Rattle.filter.specs.Meaning.{Equivalent}
use Rattle.holdings.specs.Memory.{memory_of, holding}
use Rattle.placing.proofs.doubles.first_double.Given as goal

-- no holding before is equivalent
abbrev pub invariant-loop-i : goal.invariant-loop-i
invariant-loop-i g l = (j : ℕ) → j < l.i → Equivalent g.A.Alphabet.model (table_of l.filter.draft) (holding (memory_of l.shelf.shelf.now) j) → ⊥
