use Rattle.std.proofs.Common.{◌≡◌, drop}
use Rattle.holdings.specs.Memory.{memory_of, in_use}
use Rattle.holdings.specs.Check.{check_from}
use Rattle.holdings.proofs.memory.Shelf.check.Given as goal

abbrev pub invariant-loop-i : goal.invariant-loop-i
invariant-loop-i g l =
    let m = g.A.Alphabet.model in
    let M = memory_of l.self in
    check_from m M l.i (drop l.i (in_use M)) ≡ check_from m M 0 (in_use M)
