-- What a comparison of two machines answers.
use Rattle.std.specs.Prelude.{◌≡◌, ℕ, List, Some, None, Option}
use Rattle.machine.specs.Machine.{Machine, transduced, Distinguishes}
use Rattle.machine.specs.Shortlex.{Earlier}

-- the machines do the same to every text
abbrev pub Equivalent : Machine → Machine → Type 0
Equivalent a b = (u : List ℕ) → transduced a u ≡ transduced b u

-- none where the machines are equivalent, else the earliest text that distinguishes them
abbrev pub Told : Machine → Machine → Option (List ℕ) → Type 0
Told a b None = Equivalent a b
Told a b (Some u) = Distinguishes a b u × ((y : List ℕ) → Earlier y u → transduced a y ≡ transduced b y)
