-- Tests of equality for texts and outputs.
use Rattle.std.specs.Prelude.{ℕ, Bool, true, false, ◌&&◌, List, [], ◌∷◌, Some, None, Option, ◌==◌}

-- the texts are equal
unfoldable pub same_text : List ℕ → List ℕ → Bool
same_text [] [] = true
same_text [] (b ∷ y) = false
same_text (a ∷ x) [] = false
same_text (a ∷ x) (b ∷ y) = a == b && same_text x y

-- both write the same text, or both reject
unfoldable pub same_output : Option (List ℕ) → Option (List ℕ) → Bool
same_output None None = true
same_output None (Some y) = false
same_output (Some x) None = false
same_output (Some x) (Some y) = same_text x y
