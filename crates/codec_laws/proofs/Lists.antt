-- Lists of records, written and read again, and read and written again.
use Rattle.std.proofs.Common.{◌≡◌, ℕ, zero, suc, ◌+◌, ◌-◌, ◌*◌, ◌<◌, ◌≤◌, List, [], ◌∷◌, ◌++◌, length, take, drop, Some, None, Option, sym, refl, ap, ◌∙◌, suc-mul, arith, take-add}
use Rattle.std.proofs.ByRecursion.{All-drop, All-take}
use Rattle.std.proofs.lemmas.List.{append_assoc, drop_at, drop-drop, length-append, length-drop, length-take-le, take_at}
use Rattle.codec_laws.specs.Code.{Code, Bytes, Exact, Free}
use Rattle.codec_laws.specs.Lists.{later, or_else, image_all, records, wrong_from, FitAll}

pub or_none : (p q : Option ℕ) → or_else p q ≡ None → (p ≡ None) × (q ≡ None)
or_none None q e = (refl, e)
or_none (Some n) q e = absurd (grind arith)

pub later_none : (k : ℕ) (o : Option ℕ) → later k o ≡ None → o ≡ None
later_none k None e = refl
later_none k (Some n) e = grind arith

module _ {X : Type 0} (c : Code X) where
  pub records_length : (n : ℕ) (bs : List ℕ) → length (records c n bs) ≡ n
  records_length zero bs = refl
  records_length (suc n) bs = ap suc (records_length n (drop c.width bs))

  -- one record more
  pub records_more : (n : ℕ) (bs : List ℕ) → records c (n + 1) bs ≡ records c n bs ++ (c.meaning (take c.width (drop (n * c.width) bs)) ∷ [])
  records_more zero bs = let z : 0 * c.width ≡ 0 = omega arith in ap (λ k. c.meaning (take c.width (drop k bs)) ∷ []) (sym z)
  records_more (suc n) bs =
      let w = c.width in
      let rest = drop w bs in
      let s : suc n + 1 ≡ suc (n + 1) = omega arith in
      let k : w + n * w ≡ suc n * w = omega (arith, suc-mul n w) in
      ap (λ m. records c m bs) s
      ∙ ap (λ l. c.meaning (take w bs) ∷ l) (records_more n rest)
      ∙ ap (λ l. c.meaning (take w bs) ∷ (records c n rest ++ (c.meaning (take w l) ∷ []))) (drop-drop (n * w) w bs ∙ ap (λ m. drop m bs) k)

  -- the wrong bytes of the records from the place k on: those of one record, then those behind it
  pub wrong_step : (bs : List ℕ) (k n i : ℕ) → i < n → wrong_from c k (n - i) (drop k bs) ≡ or_else (later k (c.wrong (take c.width (drop k bs)))) (wrong_from c (k + c.width) (n - (i + 1)) (drop (k + c.width) bs))
  wrong_step bs k n i h =
      let w = c.width in
      let e : n - i ≡ suc (n - (i + 1)) = omega arith in
      ap (λ m. wrong_from c k m (drop k bs)) e
      ∙ ap (λ l. or_else (later k (c.wrong (take w (drop k bs)))) (wrong_from c (k + w) (n - (i + 1)) l)) (drop-drop w k bs)

  pub wrong_done : (bs : List ℕ) (k n i : ℕ) → n ≤ i → wrong_from c k (n - i) (drop k bs) ≡ None
  wrong_done bs k n i h = let e : n - i ≡ 0 = omega arith in ap (λ m. wrong_from c k m (drop k bs)) e

  -- where no byte can be wrong, none is
  pub free_all : Free c → (n k : ℕ) (bs : List ℕ) → wrong_from c k n bs ≡ None
  free_all free zero k bs = refl
  free_all free (suc n) k bs =
      ap (λ o. or_else (later k o) (wrong_from c (k + c.width) n (drop c.width bs))) (free (take c.width bs))
      ∙ free_all free n (k + c.width) (drop c.width bs)

  module _ (exact : Exact c) where
    pub size_all : (xs : List X) → length (image_all c xs) ≡ length xs * c.width
    size_all [] = omega arith
    size_all (x ∷ xs) = omega (arith, length-append (c.image x) (image_all c xs), exact.size x, size_all xs, suc-mul (length xs) c.width)

    -- the first record, and those behind it
    first_is : (x : X) (xs : List X) (rest : List ℕ) → take c.width (image_all c (x ∷ xs) ++ rest) ≡ c.image x
    first_is x xs rest = ap (take c.width) (append_assoc (c.image x) (image_all c xs) rest) ∙ take_at (c.image x) (image_all c xs ++ rest) c.width (exact.size x)

    others_are : (x : X) (xs : List X) (rest : List ℕ) → drop c.width (image_all c (x ∷ xs) ++ rest) ≡ image_all c xs ++ rest
    others_are x xs rest = ap (drop c.width) (append_assoc (c.image x) (image_all c xs) rest) ∙ drop_at (c.image x) (image_all c xs ++ rest) c.width (exact.size x)

    pub records_back : (xs : List X) (rest : List ℕ) → FitAll c xs → records c (length xs) (image_all c xs ++ rest) ≡ xs
    records_back [] rest all = refl
    records_back (x ∷ xs) rest all =
        ap (λ l. c.meaning l ∷ records c (length xs) (drop c.width (image_all c (x ∷ xs) ++ rest))) (first_is x xs rest)
        ∙ ap (λ l. c.meaning (c.image x) ∷ records c (length xs) l) (others_are x xs rest)
        ∙ ap (λ y. y ∷ records c (length xs) (image_all c xs ++ rest)) (exact.back x all.0)
        ∙ ap (λ l. x ∷ l) (records_back xs rest all.1)

    pub clean_back : (k : ℕ) (xs : List X) (rest : List ℕ) → FitAll c xs → wrong_from c k (length xs) (image_all c xs ++ rest) ≡ None
    clean_back k [] rest all = refl
    clean_back k (x ∷ xs) rest all =
        ap (λ l. or_else (later k (c.wrong l)) (wrong_from c (k + c.width) (length xs) (drop c.width (image_all c (x ∷ xs) ++ rest)))) (first_is x xs rest)
        ∙ ap (λ o. or_else (later k o) (wrong_from c (k + c.width) (length xs) (drop c.width (image_all c (x ∷ xs) ++ rest)))) (exact.clean x all.0)
        ∙ ap (wrong_from c (k + c.width) (length xs)) (others_are x xs rest)
        ∙ clean_back (k + c.width) xs rest all.1

    pub records_again : (n k : ℕ) (bs : List ℕ) → n * c.width ≤ length bs → Bytes bs → wrong_from c k n bs ≡ None → image_all c (records c n bs) ≡ take (n * c.width) bs
    records_again zero k bs h all ok = let z : 0 * c.width ≡ 0 = omega arith in ap (λ m. take m bs) (sym z)
    records_again (suc n) k bs h all ok =
        let w = c.width in
        let s = suc-mul n w in
        let e : w + n * w ≡ suc n * w = omega arith in
        let both = or_none (later k (c.wrong (take w bs))) (wrong_from c (k + w) n (drop w bs)) ok in
        let one = exact.again (take w bs) (length-take-le w bs (omega arith)) (All-take (λ b. b < 256) w bs all) (later_none k (c.wrong (take w bs)) both.0) in
        let rest = records_again n (k + w) (drop w bs) (omega (arith, length-drop w bs)) (All-drop (λ b. b < 256) w bs all) both.1 in
        ap (λ l. l ++ image_all c (records c n (drop w bs))) one
        ∙ ap (λ l. take w bs ++ l) rest
        ∙ sym (take-add w (n * w) bs)
        ∙ ap (λ m. take m bs) e
