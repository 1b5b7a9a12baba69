-- What holds at each place of a list, beside what holds of each item.
use Rattle.std.proofs.Common.{◌≡◌, ℕ, zero, suc, ◌<◌, List, [], ◌∷◌, take, Some, sym, refl, ◌∙◌, subst, arith}
use Rattle.std.specs.List.{slice_get, AllByRecursion}

-- Q holds of each place and its item
abbrev pub AtEach : {X : Type 0} → (ℕ → X → Type 0) → List X → Type 0
AtEach {X} Q xs = (i : ℕ) (x : X) → slice_get xs i ≡ Some x → Q i x

pub at_each_none : {X : Type 0} (Q : ℕ → X → Type 0) → AtEach Q []
at_each_none Q i x e = grind arith

pub at_each_more : {X : Type 0} (Q : ℕ → X → Type 0) (x : X) (xs : List X) → Q 0 x → AtEach (λ i. Q (suc i)) xs → AtEach Q (x ∷ xs)
at_each_more Q x xs here later zero y e = let same : x ≡ y = cc in subst (Q 0) same here
at_each_more Q x xs here later (suc i) y e = later i y e

-- what holds of each item holds at each place, and back
pub at_each_from_all : {X : Type 0} (P : X → Type 0) (xs : List X) → AllByRecursion P xs → AtEach (λ _. P) xs
at_each_from_all P [] all = at_each_none (λ _. P)
at_each_from_all P (x ∷ xs) all = at_each_more (λ _. P) x xs all.0 (at_each_from_all P xs all.1)

pub all_from_at_each : {X : Type 0} (P : X → Type 0) (xs : List X) → AtEach (λ _. P) xs → AllByRecursion P xs
all_from_at_each P [] at = tt
all_from_at_each P (x ∷ xs) at = (at 0 x refl, all_from_at_each P xs (λ i. at (suc i)))

-- the places of a front
nth_take : {X : Type 0} (n : ℕ) (xs : List X) (i : ℕ) → i < n → slice_get (take n xs) i ≡ slice_get xs i
nth_take zero xs i below = absurd (omega arith)
nth_take (suc n) [] i below = refl
nth_take (suc n) (x ∷ xs) zero below = refl
nth_take (suc n) (x ∷ xs) (suc i) below = nth_take n xs i (omega arith)

nth_take_below : {X : Type 0} (n : ℕ) (xs : List X) (i : ℕ) (x : X) → slice_get (take n xs) i ≡ Some x → i < n
nth_take_below zero xs i x e = grind arith
nth_take_below (suc n) [] i x e = grind arith
nth_take_below (suc n) (y ∷ xs) zero x e = omega arith
nth_take_below (suc n) (y ∷ xs) (suc i) x e = let ih = nth_take_below n xs i x e in omega arith

-- the same of the items before a place
pub at_front : {X : Type 0} (P : X → Type 0) (n : ℕ) (xs : List X) → AllByRecursion P (take n xs) → (i : ℕ) (x : X) → i < n → slice_get xs i ≡ Some x → P x
at_front P n xs all i x below e = at_each_from_all P (take n xs) all i x (nth_take n xs i below ∙ e)

pub all_front : {X : Type 0} (P : X → Type 0) (n : ℕ) (xs : List X) → ((i : ℕ) (x : X) → i < n → slice_get xs i ≡ Some x → P x) → AllByRecursion P (take n xs)
all_front P n xs at =
    all_from_at_each P (take n xs) (λ i x e. let below = nth_take_below n xs i x e in at i x below (sym (nth_take n xs i below) ∙ e))
