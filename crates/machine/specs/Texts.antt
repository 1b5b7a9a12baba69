-- Texts kept as nodes: a node is an earlier text's number and the symbol put behind that text.
use Rattle.std.specs.Prelude.{ℕ, ◌<◌, List, [], ◌∷◌, ◌++◌, length, get_or, slice_index_or}

-- the list of texts with one more for each node
unfoldable pub grown : List (List ℕ) → List (ℕ × ℕ) → List (List ℕ)
grown V [] = V
grown V (n ∷ ns) = grown (V ++ ((slice_index_or V n.0 [] ++ (n.1 ∷ [])) ∷ [])) ns

-- the texts of the nodes: the first node stands for the empty text
abbrev pub texts : List (ℕ × ℕ) → List (List ℕ)
texts [] = []
texts (root ∷ ns) = grown ([] ∷ []) ns

-- the text of node i
abbrev pub text_at : List (ℕ × ℕ) → ℕ → List ℕ
text_at ns i = slice_index_or (texts ns) i []

-- each node but the first comes from an earlier one
abbrev pub Rooted : List (ℕ × ℕ) → Type 0
Rooted ns = (i : ℕ) → 0 < i → i < length ns → (get_or ns i (0, 0)).0 < i
