-- One symbol more.
use Rattle.std.specs.Prelude.{◌≡◌, ℕ, ◌+◌, ◌<◌, ◌≤◌, List, [], ◌∷◌, ◌++◌, length, Some, None, Option}
use Rattle.machine.specs.Machine.{run}
use Rattle.machine.specs.Sides.{state_of, output_of}
use Rattle.alphabet.specs.Model.{Model}
use Rattle.table.specs.Table.{Table}
use Rattle.filter.specs.Machines.{machine_of}
use Rattle.steps.specs.declared.step.Side.{Side}
use Rattle.replay.specs.Replays.{Stands}
use Rattle.replay.specs.Sizes.{longest_of}

-- no state, and nothing written
abbrev pub dead_side : Side
dead_side = record { state = None; from = 0; to = 0; total = 0 }

-- a state, if there is one, is below p
abbrev pub Known : ℕ → Option ℕ → Type 0
Known p None = Unit {0}
Known p (Some q) = q < p

-- y is where the filter stands once it has read s where it stood at x
pub record Moved {G T : Type 0} (m : Model G T) (F : Table G T) (x : Side) (s : ℕ) (y : Side) : Type 0 where
  pub stands : (u : List ℕ) → state_of (run (machine_of m F) u 0) ≡ x.state → x.total ≡ length (output_of (run (machine_of m F) u 0)) → Stands m F u (u ++ (s ∷ [])) s y
  pub short : y.total ≤ x.total + longest_of F
  pub known : Known (length F.states) y.state
