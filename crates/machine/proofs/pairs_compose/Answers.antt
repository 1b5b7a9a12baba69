-- The composition of two machines.
use Rattle.machine.proofs.Composed.{composes_transduced}
use Rattle.machine.proofs.pairs_compose.Goals as goal

pub returns : goal.returns
returns c = composes_transduced
