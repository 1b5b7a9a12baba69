-- Where two machines stand after a text.
use Rattle.std.specs.Prelude.{◌≡◌, ℕ, List, [], Some, None, Option}
use Rattle.machine.specs.Machine.{Machine, run}

-- the state that a run reached, or none where it stopped
abbrev pub state_of : Option (ℕ × List ℕ) → Option ℕ
state_of None = None
state_of (Some r) = Some r.0

-- what a run wrote, and nothing where it stopped
abbrev pub output_of : Option (ℕ × List ℕ) → List ℕ
output_of None = []
output_of (Some r) = r.1

-- the state after one more symbol; what is dead stays dead
abbrev pub onward : Machine → Option ℕ → ℕ → Option ℕ
onward m None s = None
onward m (Some q) s = state_of (m.step q s)

-- after the text the two machines are in these states, or in none where a side is dead
abbrev pub Arrives : Machine → Machine → List ℕ → Option ℕ → Option ℕ → Type 0
Arrives a b u l r = (state_of (run a u 0) ≡ l) × (state_of (run b u 0) ≡ r)
