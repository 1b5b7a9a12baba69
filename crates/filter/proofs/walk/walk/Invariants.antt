use Rattle.std.proofs.Common.{◌≡◌, ℕ, ◌*◌, ◌≤◌, List, length}
use Rattle.machine.proofs.Walks.{Along}
use Rattle.table.specs.Table.{table_of}
use Rattle.filter.specs.Machines.{machine_of}
use Rattle.filter.specs.Outcomes.{put}
use Rattle.filter.proofs.walk.walk.Given as goal

abbrev pub invariant-loop-position : goal.invariant-loop-position
invariant-loop-position g l =
    (w : List ℕ)
    × Along (machine_of g.A.Alphabet.model (table_of l.filter.draft)) l.text l.start l.position l.state w
    × (length w ≡ l.count)
    × (l.count ≤ 32 * l.position)
    × (put 0 w l.initial.out ≡ l.out)
