-- The order of texts: it is strict and total, endings keep it, and induction along it.
use Rattle.std.proofs.Common.{◌≡◌, ℕ, zero, suc, ◌<◌, ◌⊎◌, List, [], ◌∷◌, ◌++◌, length, refl, inl, inr, append-nil, arith, length-append}
use Rattle.machine.specs.Shortlex.{Lex, Earlier}

-- the first difference carries over
lex_trans : (x y z : List ℕ) → Lex x y → Lex y z → Lex x z
lex_trans [] y z h k = absurd h
lex_trans (a ∷ x) [] z h k = absurd h
lex_trans (a ∷ x) (b ∷ y) [] h k = absurd k
lex_trans (a ∷ x) (b ∷ y) (c ∷ z) h k = let ih = lex_trans x y z in grind arith

-- earlier than what is earlier is earlier
pub earlier_trans : (x y z : List ℕ) → Earlier x y → Earlier y z → Earlier x z
earlier_trans x y z h k = let t = lex_trans x y z in grind arith

-- nothing differs from itself
lex_irreflexive : (x : List ℕ) → Lex x x → ⊥
lex_irreflexive [] h = h
lex_irreflexive (a ∷ x) h = let ih = lex_irreflexive x in grind arith

-- no text is earlier than itself
pub earlier_irreflexive : (x : List ℕ) → Earlier x x → ⊥
earlier_irreflexive x h = let i = lex_irreflexive x in grind arith

-- of two texts of one length one is smaller at the first difference, or they are the same
lex_total : (x y : List ℕ) → length x ≡ length y → (Lex x y ⊎ Lex y x) ⊎ (x ≡ y)
lex_total [] [] e = inr refl
lex_total [] (b ∷ y) e = absurd (omega arith)
lex_total (a ∷ x) [] e = absurd (omega arith)
lex_total (a ∷ x) (b ∷ y) e = let ih = lex_total x y (omega arith) in grind arith

-- of two texts one is earlier, or they are the same
pub earlier_total : (x y : List ℕ) → (Earlier x y ⊎ Earlier y x) ⊎ (x ≡ y)
earlier_total x y = let t = lex_total x y in grind arith

-- whatever is put behind two texts, their first difference stays
lex_append : (x y v w : List ℕ) → Lex x y → Lex (x ++ v) (y ++ w)
lex_append [] y v w h = absurd h
lex_append (a ∷ x) [] v w h = absurd h
lex_append (a ∷ x) (b ∷ y) v w h = let ih = lex_append x y v w in grind arith

-- endings of one length keep the order
pub earlier_append : (x y v w : List ℕ) → length v ≡ length w → Earlier x y → Earlier (x ++ v) (y ++ w)
earlier_append x y v w e h = let l = lex_append x y v w in grind (arith, length-append)

-- a common front does not change the first difference
lex_front : (u x y : List ℕ) → Lex x y → Lex (u ++ x) (u ++ y)
lex_front [] x y h = h
lex_front (a ∷ u) x y h = inr (refl, lex_front u x y h)

-- the smaller last symbol is earlier
pub earlier_symbol : (u : List ℕ) (c s : ℕ) → c < s → Earlier (u ++ (c ∷ [])) (u ++ (s ∷ []))
earlier_symbol u c s h = let l = lex_front u (c ∷ []) (s ∷ []) (inl h) in grind (arith, length-append)

-- no text is earlier than its own front
pub not_before_front : (x w : List ℕ) → Earlier (x ++ w) x → ⊥
not_before_front x w h = go w h
  where
    -- by what follows the front
    go : (w : List ℕ) → Earlier (x ++ w) x → ⊥
    go [] k = earlier_irreflexive x (rw append-nil at k)
    go (c ∷ w) k = let l = length-append x (c ∷ w) in grind arith

-- nothing is smaller than the empty text at a first difference
nothing_before : (y : List ℕ) → Lex y [] → ⊥
nothing_before [] h = h
nothing_before (c ∷ y) h = h

-- strong induction on numbers
pub strong : (P : ℕ → Type 0) → ((n : ℕ) → ((k : ℕ) → k < n → P k) → P n) → (n : ℕ) → P n
strong P f n = below (suc n) n (omega arith)
  where
    -- by a bound
    below : (m k : ℕ) → k < m → P k
    below zero k h = absurd (omega arith)
    below (suc m) k h = f k (λ j l. below m j (omega arith))

-- induction along the first difference, among texts of one length
lex_induct : (n : ℕ) (P : List ℕ → Type 0)
    → ((x : List ℕ) → length x ≡ n → ((y : List ℕ) → length y ≡ n → Lex y x → P y) → P x)
    → (x : List ℕ) → length x ≡ n → P x
lex_induct zero P f [] e = f [] e (λ y g h. absurd (nothing_before y h))
lex_induct zero P f (a ∷ x) e = absurd (omega arith)
lex_induct (suc n) P f [] e = absurd (omega arith)
lex_induct (suc n) P f (a ∷ x) e =
    strong
    (λ c. (z : List ℕ) → length z ≡ n → P (c ∷ z))
    (λ c lower. lex_induct n (λ z. P (c ∷ z)) (λ z g same. f (c ∷ z) (omega arith) (pick c z lower same)))
    a
    x
    (omega arith)
  where
    -- a smaller first symbol, or the same one
    pick : (c : ℕ) (z : List ℕ) → ((k : ℕ) → k < c → (z : List ℕ) → length z ≡ n → P (k ∷ z))
        → ((y : List ℕ) → length y ≡ n → Lex y z → P (c ∷ y)) → (y : List ℕ) → length y ≡ suc n → Lex y (c ∷ z) → P y
    pick c z lower same [] l h = absurd h
    pick c z lower same (k ∷ y) l (inl h) = lower k h y (omega arith)
    pick c z lower same (k ∷ y) l (inr h) = rw h.0 (same y (omega arith) h.1)

-- induction along the order: what holds wherever it holds of all that is earlier, holds
pub earlier_induct : (P : List ℕ → Type 0)
    → ((x : List ℕ) → ((y : List ℕ) → Earlier y x → P y) → P x) → (x : List ℕ) → P x
earlier_induct P f x =
    strong
    (λ n. (x : List ℕ) → length x ≡ n → P x)
    (λ n shorter. lex_induct n P (λ x e same. f x (λ y h. pick n x e shorter same y h)))
    (length x)
    x
    refl
  where
    -- a shorter text, or one of the same length
    pick : (n : ℕ) (x : List ℕ) → length x ≡ n → ((k : ℕ) → k < n → (z : List ℕ) → length z ≡ k → P z)
        → ((y : List ℕ) → length y ≡ n → Lex y x → P y) → (y : List ℕ) → Earlier y x → P y
    pick n x e shorter same y (inl h) = shorter (length y) (omega arith) y refl
    pick n x e shorter same y (inr h) = same y (omega arith) h.1
