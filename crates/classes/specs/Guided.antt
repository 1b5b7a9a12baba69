-- The next symbol to try at a pair of sides: nothing before it need be tried.
use Rattle.std.specs.Prelude.{ℕ, ◌<◌, ◌≤◌, Some, None, Option}
use Rattle.machine.specs.Machine.{Machine}
use Rattle.machine.specs.Covered.{Idle}

-- every symbol from n on is idle where there is no answer, else every one from n up to the answer
abbrev pub Guided : Machine → Machine → Option ℕ → Option ℕ → ℕ → Option ℕ → Type 0
Guided a b l r n None = (s : ℕ) → n ≤ s → Idle a b l r s
Guided a b l r n (Some c) = (n ≤ c) × ((s : ℕ) → n ≤ s → s < c → Idle a b l r s)

-- the number, if there is one, is below a bound
abbrev pub Below : ℕ → Option ℕ → Type 0
Below n None = Unit {0}
Below n (Some c) = c < n
