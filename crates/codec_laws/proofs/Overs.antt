-- A list written over another from a place on, piece by piece.
use Rattle.std.proofs.Common.{◌≡◌, ℕ, ◌+◌, ◌<◌, ◌≤◌, List, [], ◌∷◌, ◌++◌, length, take, drop, set, sym, ap, ◌∙◌, add-one, arith}
use borrow.Rule.Slice.PartMut.{put_mid}
use Rattle.std.proofs.lemmas.List.{append_assoc, append-nil, drop_all, drop_at, drop-drop, length-append, length-drop, length-take-le, set_split, take-append-drop, take_at}
use Rattle.holdings.specs.Append.{over}

module _ {X : Type 0} (xs : List X) (n : ℕ) where
  pub length_over : (ys : List X) → n + length ys ≤ length xs → length (over xs n ys) ≡ length xs
  length_over ys h =
      omega (arith, length-append (take n xs) (ys ++ drop (n + length ys) xs), length-append ys (drop (n + length ys) xs), length-take-le n xs (omega arith), length-drop (n + length ys) xs)

  -- one piece behind another is one piece
  pub over_more : (ys zs : List X) (m : ℕ) → n ≤ length xs → m ≡ n + length ys → over (over xs n ys) m zs ≡ over xs n (ys ++ zs)
  over_more ys zs m h e =
      let front = take n xs ++ ys in
      let rest = drop (n + length ys) xs in
      let size : length front ≡ m = omega (arith, length-append (take n xs) ys, length-take-le n xs h) in
      let whole : over xs n ys ≡ front ++ rest = sym (append_assoc (take n xs) ys rest) in
      let end : drop (m + length zs) (front ++ rest) ≡ drop (n + length (ys ++ zs)) xs
      = sym (drop-drop (length zs) m (front ++ rest)) ∙ ap (drop (length zs)) (drop_at front rest m size)
      ∙ drop-drop (length zs) (n + length ys) xs
      ∙ ap (λ k. drop k xs) (omega (arith, length-append ys zs)) in
      ap (λ l. take m l ++ (zs ++ drop (m + length zs) l)) whole
      ∙ ap (λ l. l ++ (zs ++ drop (m + length zs) (front ++ rest))) (take_at front rest m size)
      ∙ ap (λ l. front ++ (zs ++ l)) end
      ∙ append_assoc (take n xs) ys (zs ++ drop (n + length (ys ++ zs)) xs)
      ∙ ap (λ l. take n xs ++ l) (sym (append_assoc ys zs (drop (n + length (ys ++ zs)) xs)))

  -- nothing written changes nothing
  pub over_none : n ≤ length xs → over xs n [] ≡ xs
  over_none h = let z : n + 0 ≡ n = omega arith in ap (λ k. take n xs ++ drop k xs) z ∙ take-append-drop n xs

  -- one entry
  pub set_over : (y : X) → n < length xs → set xs n y ≡ over xs n (y ∷ [])
  set_over y h = set_split xs n y h ∙ ap (λ k. take n xs ++ (y ∷ drop k xs)) (sym (add-one n))

  -- a write to a part
  pub part_over : (k : ℕ) (ys : List X) → k ≡ length ys → put_mid n k xs ys ≡ over xs n ys
  part_over k ys e = ap (λ l. take n xs ++ (ys ++ l)) (drop-drop k n xs ∙ ap (λ m. drop (n + m) xs) e)

-- the whole list
pub over_all : {X : Type 0} (xs ys : List X) → length xs ≡ length ys → over xs 0 ys ≡ ys
over_all xs ys e = ap (λ l. ys ++ l) (drop_all (0 + length ys) xs (omega arith)) ∙ append-nil ys
