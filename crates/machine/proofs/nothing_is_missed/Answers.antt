-- The main lemma of the search.
use Rattle.machine.proofs.Explores.{explored_same}
use Rattle.machine.proofs.nothing_is_missed.Goals as goal

pub returns : goal.returns
returns c = explored_same
