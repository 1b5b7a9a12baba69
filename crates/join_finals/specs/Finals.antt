-- What is written into a buffer, and how much of it.
use Rattle.std.specs.Prelude.{◌≡◌, ℕ, ◌≤◌, List, length, take, Some, None, Option}

-- the state reached and how much was written, or none where there is no move
abbrev pub Ran : Option (ℕ × List ℕ) → List ℕ → ℕ → Option (ℕ × ℕ) → Type 0
Ran o out most None = o ≡ None
Ran o out most (Some r) = (o ≡ Some (r.0, take r.1 out)) × (r.1 ≤ most)

-- the final output stands at the front of the buffer, or there is none
abbrev pub Ends : Option (List ℕ) → List ℕ → Option ℕ → Type 0
Ends o out None = o ≡ None
Ends o out (Some n) = (o ≡ Some (take n out)) × (n ≤ length out)
