-- Outputs as words of terms: what a term stands for depends on the symbol that is read.
use Rattle.std.specs.Prelude.{◌≡◌, ℕ, ◌<◌, List, [], ◌∷◌, Some, Option, ◌≢◌}
use Rattle.machine.specs.Machine.{Machine, and_then}

-- the values of a word of terms at a symbol, or none where a term has none
unfoldable pub values : {T : Type 0} → (T → ℕ → Option ℕ) → List T → ℕ → Option (List ℕ)
values value [] s = Some []
values value (t ∷ L) s = and_then (value t s) (λ c. and_then (values value L s) (λ w. Some (c ∷ w)))

-- what is asked of good terms, over symbols below a size
pub record TermLaws {T : Type 0} (size : ℕ) (Good : T → Type 0) (value : T → ℕ → Option ℕ) (constant : ℕ → T) : Type 0 where
  -- values are at symbols, and are symbols
  pub symbols : (t : T) → Good t → (s c : ℕ) → value t s ≡ Some c → (s < size) × (c < size)
  -- the constant of a symbol is good
  pub constant_good : (c : ℕ) → c < size → Good (constant c)
  -- and has that symbol as its value at every symbol
  pub constant_value : (c s : ℕ) → c < size → s < size → value (constant c) s ≡ Some c
  -- two terms with equal values at two different symbols have equal values wherever both have one
  pub twice : (t t' : T) → Good t → Good t' → (e f s : ℕ) → (e ≢ f) → (c d k k' : ℕ)
      → value t e ≡ Some c → value t' e ≡ Some c → value t f ≡ Some d → value t' f ≡ Some d
      → value t s ≡ Some k → value t' s ≡ Some k' → k ≡ k'

-- the machine in state p goes to p' on the symbol, and writes the values of the terms there
pub record Uses {T : Type 0} (value : T → ℕ → Option ℕ) (m : Machine) (p s p' : ℕ) (L : List T) : Type 0 where
  pub word : List ℕ
  pub goes : m.step p s ≡ Some (p', word)
  pub writes : values value L s ≡ Some word
