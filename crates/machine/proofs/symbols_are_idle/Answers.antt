-- The three ways to be idle.
use Rattle.machine.proofs.Idles.{idle_dead, idle_half, idle_class}
use Rattle.machine.proofs.symbols_are_idle.Goals as goal

pub returns : goal.returns
returns g c = record {
  dead = idle_dead;
  half = idle_half;
  class = λ size good value constant law a b p q p' q' L M. idle_class law a b;
}
