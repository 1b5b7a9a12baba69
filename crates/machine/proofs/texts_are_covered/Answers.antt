-- The four ways to be covered.
use Rattle.machine.proofs.Covers.{covered_dead, covered_half, covered_same, covered_two}
use Rattle.machine.proofs.texts_are_covered.Goals as goal

pub returns : goal.returns
returns c = record { dead = covered_dead; half = covered_half; same = covered_same; two = covered_two }
