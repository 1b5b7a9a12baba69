-- The order of texts: shorter first, and among equally long ones by the first symbol that differs.
use Rattle.std.specs.Prelude.{◌≡◌, ℕ, ◌<◌, ◌⊎◌, List, [], ◌∷◌, length}

-- x is smaller than y at the first place where they differ
abbrev pub Lex : List ℕ → List ℕ → Type 0
Lex [] y = ⊥
Lex (a ∷ x) [] = ⊥
Lex (a ∷ x) (b ∷ y) = (a < b) ⊎ ((a ≡ b) × Lex x y)

-- x is earlier than y
abbrev pub Earlier : List ℕ → List ℕ → Type 0
Earlier x y = (length x < length y) ⊎ ((length x ≡ length y) × Lex x y)
