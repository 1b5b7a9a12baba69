use Rattle.std.proofs.Common.{◌≡◌, ◌+◌}
use Rattle.table.specs.Table.{table_of}
use Rattle.steps.specs.Steps.{side_of, text}
use Rattle.replay.specs.Replays.{output_by}
use Rattle.replay.proofs.Outputs.{Playing}
use Rattle.replay.proofs.written.output.Given as goal

abbrev pub invariant-loop-side : goal.invariant-loop-side
invariant-loop-side g l =
    let m = g.A.Alphabet.model in
    let start = l.initial.at in
    (l.side ≡ side_of l.hand l.at)
    × Playing m (table_of l.draft) l.hand l.steps (output_by m (table_of l.draft) (text l.steps start.parent) start.symbol (side_of l.hand start)) l.total l.at l.out

abbrev pub decreases-loop-side : goal.decreases-loop-side
decreases-loop-side g l = l.side.total + l.at.parent
