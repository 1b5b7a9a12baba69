-- A breadth-first search for the earliest distinguishing text: how far it has come.
use Rattle.std.specs.Prelude.{◌≡◌, ℕ, ◌<◌, ◌⊎◌, List, [], ◌∷◌, ◌++◌, length, get_or, slice_index_or}
use Rattle.machine.specs.Machine.{Machine, transduced}
use Rattle.machine.specs.Shortlex.{Earlier}
use Rattle.machine.specs.Covered.{Covered}

-- the text is one of the list
abbrev pub In : List (List ℕ) → List ℕ → Type 0
In V x = (i : ℕ) × (i < length V) × (slice_index_or V i [] ≡ x)

-- each text of the list is earlier than those behind it
abbrev pub Rising : List (List ℕ) → Type 0
Rising V = (i j : ℕ) → i < j → j < length V → Earlier (slice_index_or V i []) (slice_index_or V j [])

-- the first k texts of the list do not distinguish, and each with one symbol more is in the list or covered
pub record Explored (a b : Machine) (V : List (List ℕ)) (k : ℕ) : Type 0 where
  pub some : 0 < length V
  pub start : get_or V 0 [] ≡ []
  pub rising : Rising V
  pub same : (i : ℕ) → i < k → transduced a (slice_index_or V i []) ≡ transduced b (slice_index_or V i [])
  pub next : (i : ℕ) → i < k → (r : ℕ) → In V (slice_index_or V i [] ++ (r ∷ [])) ⊎ Covered a b (slice_index_or V i [] ++ (r ∷ []))

-- before text k, if there is one: nothing in the list comes after its first extension
pub record Ready (a b : Machine) (V : List (List ℕ)) (k : ℕ) : Type 0 where
  pub explored : Explored a b V k
  pub last : k < length V → (i : ℕ) → i < length V → Earlier (slice_index_or V i []) (slice_index_or V k [] ++ (0 ∷ []))

-- at text k, which does not distinguish: the symbols below s are done, and its extension by s comes after the list
pub record Partway (a b : Machine) (V : List (List ℕ)) (k s : ℕ) : Type 0 where
  pub explored : Explored a b V k
  pub within : k < length V
  pub agrees : transduced a (slice_index_or V k []) ≡ transduced b (slice_index_or V k [])
  pub here : (r : ℕ) → r < s → In V (slice_index_or V k [] ++ (r ∷ [])) ⊎ Covered a b (slice_index_or V k [] ++ (r ∷ []))
  pub last : (i : ℕ) → i < length V → Earlier (slice_index_or V i []) (slice_index_or V k [] ++ (s ∷ []))
