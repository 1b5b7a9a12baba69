use Rattle.std.proofs.Common.{length, vec_items}
use Rattle.holdings.specs.Memory.{memory_of}
use Rattle.shelf_law.specs.Scratch.{scratch_of}
use Rattle.shelving.specs.Runs.{Run}
use Rattle.shelving.proofs.filing.file_bodies.Given as goal

-- the bodies before were filed
abbrev pub invariant-loop-i : goal.invariant-loop-i
invariant-loop-i g l =
    Run g.A.Alphabet.model (scratch_of (length l.initial.steps) (length l.initial.symbols)) (memory_of l.bodies) (memory_of l.initial.shelf) l.i (vec_items l.verdicts) (memory_of l.shelf)
