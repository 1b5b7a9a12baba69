use Rattle.std.proofs.Common.{◌≡◌, ◌+◌, length, take}
use Rattle.std.specs.List.{flat_map}
use Rattle.holdings.specs.Memory.{memory_of}
use Rattle.holdings.specs.Append.{over}
use Rattle.stored_laws.specs.Format.{body_of}
use Rattle.stored_laws.specs.Shelved.{tables_of}
use Rattle.stored.proofs.encoding.encode.Given as goal

abbrev pub invariant-loop-i : goal.invariant-loop-i
invariant-loop-i g l =
    let written = flat_map (body_of g.A.Guard.GuardRecord.code g.A.Term.Record.code) (take l.i (tables_of (memory_of l.shelf))) in
    (l.at ≡ l.initial.at + length written) × (l.out ≡ over l.initial.out l.initial.at written)
