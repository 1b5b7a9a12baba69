-- The largest count, as a fold finds it.
use Rattle.std.proofs.Common.{◌≡◌, ℕ, max, List, [], ◌∷◌, ◌++◌, map, ap, ◌∙◌, arith}
use Rattle.std.specs.List.{fold}
use Rattle.replay.specs.Sizes.{most_of}

module _ {X Y : Type 0} (count : X → ℕ) (other : Y → ℕ) where
  fold_most : (xs : List Y) (a : ℕ) → fold max a (map other xs) ≡ max a (most_of other xs)
  fold_most [] a = omega arith
  fold_most (x ∷ xs) a = let ih = fold_most xs (max a (other x)) in omega arith

  fold_behind : (xs : List X) (a : ℕ) (l : List ℕ) → fold max a (map count xs ++ l) ≡ fold max (max a (most_of count xs)) l
  fold_behind [] a l = let e : a ≡ max a 0 = omega arith in ap (λ n. fold max n l) e
  fold_behind (x ∷ xs) a l =
      let e : max (max a (count x)) (most_of count xs) ≡ max a (max (count x) (most_of count xs)) = omega arith in
      fold_behind xs (max a (count x)) l ∙ ap (λ n. fold max n l) e

  -- the counts of two lists
  pub fold_most_append : (xs : List X) (ys : List Y) → fold max 0 (map count xs ++ map other ys) ≡ max (most_of count xs) (most_of other ys)
  fold_most_append xs ys = let e = fold_behind xs 0 (map other ys) in let f = fold_most ys (max 0 (most_of count xs)) in omega arith
