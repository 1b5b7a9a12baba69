use Rattle.std.proofs.Common.{ℕ, ◌<◌}
use Rattle.table.specs.Table.{table_of}
use Rattle.holdings.specs.Memory.{memory_of, holding}
use Rattle.shelf_law.specs.Scratch.{scratch_of, Short}
use Rattle.placing.proofs.scratch.first_short.Given as goal

-- no holding before is short
abbrev pub invariant-loop-i : goal.invariant-loop-i
invariant-loop-i g l = (j : ℕ) → j < l.i → Short g.A.Alphabet.model (scratch_of l.steps l.symbols) (table_of l.filter.draft) (holding (memory_of l.shelf.shelf.now) j) → ⊥
