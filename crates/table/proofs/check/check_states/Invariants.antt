use Rattle.std.proofs.Common.{◌≡◌, drop}
use Rattle.table.specs.Check.{each, check_state_lem}
use Rattle.table.proofs.check.check_states.Given as goal

abbrev pub invariant-loop-number : goal.invariant-loop-number
invariant-loop-number l = each check_state_lem l.number (drop l.number l.states) ≡ each check_state_lem 0 l.states
