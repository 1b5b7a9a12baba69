use Rattle.std.proofs.Common.{◌≡◌, ◌*◌, ◌≤◌, length, take, Some}
use Rattle.machine.specs.Machine.{run}
use Rattle.table.specs.Table.{table_of}
use Rattle.filter.specs.Machines.{values_of, machine_of}
use Rattle.join_finals.proofs.run_constants.Given as goal

abbrev pub invariant-loop-term : goal.invariant-loop-term
invariant-loop-term g l =
    let m = g.A.Alphabet.model in
    (run (machine_of m (table_of l.second.draft)) (values_of m (take l.term-index l.terms) 0) l.start ≡ Some (l.state, take l.count l.out))
    × (l.count ≤ 32 * l.term-index) × (length l.out ≡ length l.initial.out)
