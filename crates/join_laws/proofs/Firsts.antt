-- What is found first in lists that are put together, and that it is alone there.
use Rattle.std.proofs.Common.{◌≡◌, ℕ, zero, suc, ◌<◌, Bool, true, false, cond, ◌&&◌, List, [], ◌∷◌, ◌++◌, map, Some, None, Option, refl, subst, arith}
use Rattle.std.specs.List.{slice_get, AllByRecursion}
use Rattle.std.proofs.ByRecursion.{All-append, All-weaker}
use Rattle.machine.specs.Machine.{and_then}
use Rattle.join_laws.specs.Lists.{first, Alone, gathered}

-- the one, or else the other
abbrev pub or_else : {X : Type 0} → Option X → Option X → Option X
or_else None o = o
or_else (Some x) o = Some x

abbrev pub mapped : {X Y : Type 0} → (X → Y) → Option X → Option Y
mapped f None = None
mapped f (Some x) = Some (f x)

module _ {X : Type 0} (p : X → Bool) where
  pub first_append : (xs ys : List X) → first p (xs ++ ys) ≡ or_else (first p xs) (first p ys)
  first_append [] ys = refl
  first_append (x ∷ xs) ys = let ih = first_append xs ys in grind arith

  pub first_passes : (xs : List X) (x : X) → first p xs ≡ Some x → p x ≡ true
  first_passes [] x e = grind arith
  first_passes (y ∷ xs) x e = let ih = first_passes xs x in grind arith

  pub first_all : (P : X → Type 0) (xs : List X) (x : X) → AllByRecursion P xs → first p xs ≡ Some x → P x
  first_all P [] x all e = absurd (grind arith)
  first_all P (y ∷ xs) x all e = go (p y) refl (first_all P xs x all.1)
    where
      go : (b : Bool) → p y ≡ b → (first p xs ≡ Some x → P x) → P x
      go true h later = let same : y ≡ x = grind arith in subst P same all.0
      go false h later = later (grind arith)

  pub alone_append : (xs ys : List X) → Alone p xs → Alone p ys → ((first p xs ≡ None → ⊥) → first p ys ≡ None) → Alone p (xs ++ ys)
  alone_append [] ys a b h = b
  alone_append (x ∷ xs) ys a b h =
      let ih = alone_append xs ys a.1 b in let c = first_append xs ys in (λ e. grind arith, ih (λ n. grind arith))

  -- the item that passes is the first
  pub alone_found : (xs : List X) → Alone p xs → AllByRecursion (λ x. p x ≡ true → first p xs ≡ Some x) xs
  alone_found [] a = tt
  alone_found (x ∷ xs) a =
      let h = a.0 in
      (λ e. grind arith, All-weaker (λ y. p y ≡ true → first p xs ≡ Some y) (λ y. p y ≡ true → first p (x ∷ xs) ≡ Some y) (λ y k e. grind arith) xs (alone_found xs a.1))

  pub first_never : ((x : X) → p x ≡ false) → (xs : List X) → first p xs ≡ None
  first_never h [] = refl
  first_never h (x ∷ xs) = let ih = first_never h xs in let e = h x in grind arith

  pub alone_never : ((x : X) → p x ≡ false) → (xs : List X) → Alone p xs
  alone_never h [] = tt
  alone_never h (x ∷ xs) = let e = h x in (λ t. grind arith, alone_never h xs)

  -- nothing is found where no item passes, and an item that passes is not missed
  none_from_places : (xs : List X) → ((j : ℕ) (y : X) → slice_get xs j ≡ Some y → p y ≡ true → ⊥) → first p xs ≡ None
  none_from_places [] h = refl
  none_from_places (x ∷ xs) h =
      let ih = none_from_places xs (λ j. h (suc j)) in let k = h 0 x refl in grind arith

  not_missed : (xs : List X) (j : ℕ) (y : X) → slice_get xs j ≡ Some y → p y ≡ true → first p xs ≡ None → ⊥
  not_missed [] j y e t n = grind arith
  not_missed (x ∷ xs) zero y e t n = grind arith
  not_missed (x ∷ xs) (suc j) y e t n = let ih = not_missed xs j y e t in grind arith

  -- no two places with items that pass
  pub alone_from_places : (xs : List X) → ((i j : ℕ) (x y : X) → i < j → slice_get xs i ≡ Some x → slice_get xs j ≡ Some y → p x ≡ true → p y ≡ true → ⊥) → Alone p xs
  alone_from_places [] h = tt
  alone_from_places (x ∷ xs) h =
      (λ e. none_from_places xs (λ j y at t. h 0 (suc j) x y (omega arith) refl at e t), alone_from_places xs (λ i j y z l. h (suc i) (suc j) y z (omega arith)))

  pub places_from_alone : (xs : List X) → Alone p xs → (i j : ℕ) (x y : X) → i < j → slice_get xs i ≡ Some x → slice_get xs j ≡ Some y → p x ≡ true → p y ≡ true → ⊥
  places_from_alone [] a i j x y l e f t u = grind arith
  places_from_alone (z ∷ xs) a zero zero x y l e f t u = omega arith
  places_from_alone (z ∷ xs) a zero (suc j) x y l e f t u =
      let k = not_missed xs j y f u in let h = a.0 in grind arith
  places_from_alone (z ∷ xs) a (suc i) zero x y l e f t u = omega arith
  places_from_alone (z ∷ xs) a (suc i) (suc j) x y l e f t u = places_from_alone xs a.1 i j x y (omega arith) e f t u

pub first_map : {X Y : Type 0} (p : Y → Bool) (f : X → Y) (xs : List X) → first p (map f xs) ≡ mapped f (first (λ x. p (f x)) xs)
first_map p f [] = refl
first_map p f (x ∷ xs) = let ih = first_map p f xs in grind arith

pub alone_map : {X Y : Type 0} (p : Y → Bool) (f : X → Y) (xs : List X) → Alone (λ x. p (f x)) xs → Alone p (map f xs)
alone_map p f [] a = tt
alone_map p f (x ∷ xs) a = let c = first_map p f xs in (λ e. grind arith, alone_map p f xs a.1)

-- a test with a part that does not depend on the item
pub first_under : {X : Type 0} (b : Bool) (p : X → Bool) (xs : List X) → first (λ x. b && p x) xs ≡ cond b (first p xs) None
first_under b p [] = grind arith
first_under b p (x ∷ xs) = let ih = first_under b p xs in grind arith

pub all_gathered : {X Y : Type 0} (P : Y → Type 0) (f : X → List Y) (xs : List X) → AllByRecursion (λ x. AllByRecursion P (f x)) xs → AllByRecursion P (gathered f xs)
all_gathered P f [] all = tt
all_gathered P f (x ∷ xs) all = All-append P (f x) (gathered f xs) all.0 (all_gathered P f xs all.1)

-- where at most one item passes, and the others give nothing that is looked for, what is found is found through that one
module _ {X Y : Type 0} (p : X → Bool) (q : Y → Bool) (f : X → List Y) where
  pub first_gathered : (xs : List X) → Alone p xs → AllByRecursion (λ x. p x ≡ false → first q (f x) ≡ None) xs
      → first q (gathered f xs) ≡ and_then (first p xs) (λ x. first q (f x))
  first_gathered [] a h = refl
  first_gathered (x ∷ xs) a h =
      let ih = first_gathered xs a.1 h.1 in let c = first_append q (f x) (gathered f xs) in let d = h.0 in grind arith

  pub alone_gathered : (xs : List X) → Alone p xs → AllByRecursion (λ x. p x ≡ false → first q (f x) ≡ None) xs → AllByRecursion (λ x. Alone q (f x)) xs
      → Alone q (gathered f xs)
  alone_gathered [] a h k = tt
  alone_gathered (x ∷ xs) a h k =
      let ih = alone_gathered xs a.1 h.1 k.1 in
      let c = first_gathered xs a.1 h.1 in
      let d = h.0 in
      alone_append q (f x) (gathered f xs) k.0 ih (λ n. grind arith)
