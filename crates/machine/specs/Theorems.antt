-- What is proved of machines in general, as statements that contracts name.
use Rattle.std.specs.Prelude.{◌≡◌, ℕ, ◌+◌, ◌<◌, ◌≤◌, Bool, true, ◌⊎◌, List, [], ◌∷◌, ◌++◌, length, get_or, Some, None, Option, ◌≢◌, slice_index_or}
use Rattle.std.specs.List.{AllByRecursion}
use Rattle.machine.specs.Machine.{Machine, and_then, transduced, Distinguishes}
use Rattle.machine.specs.Shortlex.{Earlier}
use Rattle.machine.specs.Sides.{Arrives, onward}
use Rattle.machine.specs.Lag.{lag, lag_of}
use Rattle.machine.specs.Covered.{Covered, Idle}
use Rattle.machine.specs.Terms.{TermLaws, Uses}
use Rattle.machine.specs.Compared.{Told}
use Rattle.machine.specs.Explored.{Explored, Ready, Partway}
use Rattle.machine.specs.Texts.{texts, text_at, Rooted}
use Rattle.machine.specs.Composed.{Composes}

-- shortlex is a strict total order, and endings of one length keep it
pub record ShortlexOrders : Type 0 where
  pub transitive : (x y z : List ℕ) → Earlier x y → Earlier y z → Earlier x z
  pub irreflexive : (x : List ℕ) → Earlier x x → ⊥
  pub total : (x y : List ℕ) → (Earlier x y ⊎ Earlier y x) ⊎ (x ≡ y)
  pub appended : (x y v w : List ℕ) → length v ≡ length w → Earlier x y → Earlier (x ++ v) (y ++ w)

-- the lag decides which endings make two outputs equal, one such pair of endings decides the lag, and it goes on from itself
pub record LagsDecide : Type 0 where
  pub same : (x y x' y' : List ℕ) → lag x y ≡ lag x' y' → (v w : List ℕ) → x ++ v ≡ y ++ w → x' ++ v ≡ y' ++ w
  pub only : (x y x' y' v w : List ℕ) → x ++ v ≡ y ++ w → x' ++ v ≡ y' ++ w → lag x y ≡ lag x' y'
  pub more : (x y w z : List ℕ) → lag (x ++ w) (y ++ z) ≡ lag ((lag x y).0 ++ w) ((lag x y).1 ++ z)

-- the texts that a search may leave out
pub record TextsCovered : Type 0 where
  -- both sides are dead
  pub dead : (a b : Machine) (t : List ℕ) → Arrives a b t None None → Covered a b t
  -- a side is dead, and an earlier text leads to the same pair
  pub half : (a b : Machine) (t y : List ℕ) (l r : Option ℕ) → (l ≡ None) ⊎ (r ≡ None)
      → Arrives a b t l r → Arrives a b y l r → Earlier y t → Covered a b t
  -- an earlier text leads to the same living pair with the same lag
  pub same : (a b : Machine) (t y : List ℕ) (p q : ℕ) → Arrives a b t (Some p) (Some q) → Arrives a b y (Some p) (Some q)
      → lag_of a b t ≡ lag_of a b y → Earlier y t → Covered a b t
  -- two earlier texts lead to the same living pair with different lags
  pub two : (a b : Machine) (t y₁ y₂ : List ℕ) (p q : ℕ)
      → Arrives a b t (Some p) (Some q) → Arrives a b y₁ (Some p) (Some q) → Arrives a b y₂ (Some p) (Some q)
      → (lag_of a b y₁ ≢ lag_of a b y₂) → Earlier y₁ t → Earlier y₂ t → Covered a b t

-- the symbols that need not be tried at a pair of sides; outputs are words of terms of the type T
pub record SymbolsIdle (T : Type 0) : Type 0 where
  -- both sides are dead after the symbol
  pub dead : (a b : Machine) (l r : Option ℕ) (s : ℕ) → onward a l s ≡ None → onward b r s ≡ None → Idle a b l r s
  -- a side is dead after it, and a smaller symbol leads to the same pair
  pub half : (a b : Machine) (l r : Option ℕ) (c s : ℕ) → c < s → onward a l c ≡ onward a l s → onward b r c ≡ onward b r s
      → (onward a l s ≡ None) ⊎ (onward b r s ≡ None) → Idle a b l r s
  -- two smaller symbols take the same moves, and the values of the same words of terms are written
  pub class : (size : ℕ) (good : T → Bool) (value : T → ℕ → Option ℕ) (constant : ℕ → T)
      → TermLaws size (λ t. good t ≡ true) value constant → (a b : Machine) (p q p' q' : ℕ) (L M : List T)
      → AllByRecursion (λ t. good t ≡ true) L → AllByRecursion (λ t. good t ≡ true) M → (e f s : ℕ) → e < f → f < s
      → Uses value a p e p' L → Uses value b q e q' M → Uses value a p f p' L → Uses value b q f q' M
      → Uses value a p s p' L → Uses value b q s q' M → Idle a b (Some p) (Some q) s

-- no text distinguishes that is earlier than every text still to be looked at
abbrev pub NothingMissed : Type 0
NothingMissed = (a b : Machine) (V : List (List ℕ)) (k : ℕ) → Explored a b V k → (u : List ℕ)
    → ((i : ℕ) → k ≤ i → i < length V → Earlier u (slice_index_or V i [])) → transduced a u ≡ transduced b u

-- what a search keeps true at each of its turns, and what it may answer
pub record SearchKeeps : Type 0 where
  pub start : (a b : Machine) → Ready a b ([] ∷ []) 0
  pub done : (a b : Machine) (V : List (List ℕ)) (k : ℕ) → Ready a b V k → length V ≤ k → Told a b None
  pub found : (a b : Machine) (V : List (List ℕ)) (k : ℕ) → Ready a b V k → k < length V
      → Distinguishes a b (slice_index_or V k []) → Told a b (Some (slice_index_or V k []))
  pub agreed : (a b : Machine) (V : List (List ℕ)) (k : ℕ) → Ready a b V k → k < length V
      → transduced a (slice_index_or V k []) ≡ transduced b (slice_index_or V k []) → Partway a b V k 0
  pub skipped : (a b : Machine) (V : List (List ℕ)) (k s : ℕ) → Partway a b V k s → (r : ℕ) → s ≤ r
      → ((c : ℕ) → s ≤ c → c < r → Covered a b (slice_index_or V k [] ++ (c ∷ []))) → Partway a b V k r
  pub pushed : (a b : Machine) (V : List (List ℕ)) (k s : ℕ) → Partway a b V k s
      → Partway a b (V ++ ((slice_index_or V k [] ++ (s ∷ [])) ∷ [])) k (s + 1)
  pub grown : (a b : Machine) (ns : List (ℕ × ℕ)) (k s : ℕ) → Partway a b (texts ns) k s
      → Partway a b (texts (ns ++ ((k, s) ∷ []))) k (s + 1)
  pub turned : (a b : Machine) (V : List (List ℕ)) (k s : ℕ) → Partway a b V k s
      → ((r : ℕ) → s ≤ r → Covered a b (slice_index_or V k [] ++ (r ∷ []))) → Ready a b V (k + 1)

-- texts kept as nodes: what they are, how long they are at most, and how many have room
pub record TextsFit : Type 0 where
  pub count : (ns : List (ℕ × ℕ)) → length (texts ns) ≡ length ns
  pub root : (n : ℕ × ℕ) → texts (n ∷ []) ≡ [] ∷ []
  pub start : (ns : List (ℕ × ℕ)) → text_at ns 0 ≡ []
  pub pushed : (ns : List (ℕ × ℕ)) (n : ℕ × ℕ) → 0 < length ns
      → texts (ns ++ (n ∷ [])) ≡ texts ns ++ ((text_at ns n.0 ++ (n.1 ∷ [])) ∷ [])
  pub parent : (ns : List (ℕ × ℕ)) → Rooted ns → (i : ℕ) → 0 < i → i < length ns
      → text_at ns i ≡ text_at ns (get_or ns i (0, 0)).0 ++ ((get_or ns i (0, 0)).1 ∷ [])
  pub short : (ns : List (ℕ × ℕ)) → Rooted ns → (i : ℕ) → i < length ns → length (text_at ns i) ≤ i
  -- no more things than places, where no two have one place
  pub room : (n m : ℕ) (place : ℕ → ℕ) → ((i : ℕ) → i < m → place i < n)
      → ((i j : ℕ) → i < m → j < m → place i ≡ place j → i ≡ j) → m ≤ n

-- a machine over the pairs of two machines' states does what the two do one after the other
abbrev pub PairsCompose : Type 0
PairsCompose = (a b c : Machine) (P : List (ℕ × ℕ)) → Composes a b c P → (u : List ℕ)
    → transduced c u ≡ and_then (transduced a u) (λ w. transduced b w)
