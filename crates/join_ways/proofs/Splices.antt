-- Writing over a list, piece by piece.
use Rattle.std.proofs.Common.{◌≡◌, ℕ, ◌+◌, ◌<◌, ◌≤◌, List, [], ◌∷◌, ◌++◌, length, take, drop, set, sym, ap, ◌∙◌, subst, append_assoc, add-one, arith}
use Rattle.std.proofs.lemmas.List.{length-append, length-take-le, length-drop, take_at, drop_at, drop-drop, take-append-drop, set_split}
use Rattle.join_ways.specs.Written.{spliced}

module _ {X : Type 0} where
  pub splice_none : (n : ℕ) (l : List X) → spliced n [] l ≡ l
  unfolding spliced
  splice_none n l = let e : n + 0 ≡ n = omega arith in rw e (take-append-drop n l)

  pub splice_length : (n : ℕ) (xs l : List X) → n + length xs ≤ length l → length (spliced n xs l) ≡ length l
  unfolding spliced
  splice_length n xs l h =
      omega (arith, length-append (take n l) (xs ++ drop (n + length xs) l), length-append xs (drop (n + length xs) l), length-take-le n l (omega arith), length-drop (n + length xs) l)

  -- the front of a list that was written over, and the rest of it
  module _ (n : ℕ) (xs l : List X) (h : n + length xs ≤ length l) where
    front : length (take n l ++ xs) ≡ n + length xs
    front = omega (arith, length-append (take n l) xs, length-take-le n l (omega arith))

    pub take_spliced : take (n + length xs) (spliced n xs l) ≡ take n l ++ xs
    unfolding spliced
    take_spliced = ap (take (n + length xs)) (sym (append_assoc (take n l) xs (drop (n + length xs) l))) ∙ take_at (take n l ++ xs) (drop (n + length xs) l) (n + length xs) front

    pub drop_spliced : drop (n + length xs) (spliced n xs l) ≡ drop (n + length xs) l
    unfolding spliced
    drop_spliced = ap (drop (n + length xs)) (sym (append_assoc (take n l) xs (drop (n + length xs) l))) ∙ drop_at (take n l ++ xs) (drop (n + length xs) l) (n + length xs) front

  -- one piece behind another
  pub splice_more : (n : ℕ) (xs ys l : List X) → n + length xs ≤ length l → spliced (n + length xs) ys (spliced n xs l) ≡ spliced n (xs ++ ys) l
  unfolding spliced
  splice_more n xs ys l h =
      let L = spliced n xs l in
      let k = n + length xs in
      let e : k + length ys ≡ n + length (xs ++ ys) = omega (arith, length-append xs ys) in
      ap (λ a. a ++ (ys ++ drop (k + length ys) L)) (take_spliced n xs l h)
      ∙ ap (λ a. (take n l ++ xs) ++ (ys ++ a)) (sym (drop-drop (length ys) k L) ∙ ap (drop (length ys)) (drop_spliced n xs l h) ∙ drop-drop (length ys) k l)
      ∙ append_assoc (take n l) xs (ys ++ drop (k + length ys) l)
      ∙ ap (λ a. take n l ++ a) (sym (append_assoc xs ys (drop (k + length ys) l)))
      ∙ ap (λ i. take n l ++ ((xs ++ ys) ++ drop i l)) e

  pub splice_one : (n : ℕ) (x : X) (l : List X) → n < length l → set l n x ≡ spliced n (x ∷ []) l
  unfolding spliced
  splice_one n x l h = set_split l n x h ∙ ap (λ i. take n l ++ x ∷ drop i l) (sym (add-one n))

  -- one item more
  pub splice_push : (n : ℕ) (xs l : List X) (x : X) → n + length xs < length l → set (spliced n xs l) (n + length xs) x ≡ spliced n (xs ++ x ∷ []) l
  splice_push n xs l x h =
      let k = splice_length n xs l (omega arith) in
      splice_one (n + length xs) x (spliced n xs l) (omega arith) ∙ splice_more n xs (x ∷ []) l (omega arith)

-- a list E is being written over from `at` on: `done` was written, up to `place`, and L is there now
pub record Mid {X : Type 0} (at place : ℕ) (done E L : List X) : Type 0 where
  pub ends : place ≡ at + length done
  pub room : place ≤ length E
  pub is : L ≡ spliced at done E

module _ {X : Type 0} where
  pub mid_none : (at : ℕ) (E : List X) → at ≤ length E → Mid at at [] E E
  mid_none at E h = record { ends = omega arith; room = h; is = sym (splice_none at E) }

  pub mid_length : (at place : ℕ) (done E L : List X) → Mid at place done E L → length L ≡ length E
  mid_length at place done E L k = ap length k.is ∙ splice_length at done E (omega (arith, k.ends, k.room))

  pub mid_push : (at place : ℕ) (done E L : List X) (x : X) → Mid at place done E L → place < length L → Mid at (place + 1) (done ++ x ∷ []) E (set L place x)
  mid_push at place done E L x k h =
      let same = mid_length at place done E L k in
      record {
        ends = omega (arith, k.ends, length-append done (x ∷ []));
        room = omega arith;
        is = ap (λ l. set l place x) k.is ∙ ap (λ i. set (spliced at done E) i x) k.ends ∙ splice_push at done E x (omega (arith, k.ends));
      }

  -- a whole piece more
  pub mid_more : (at place next : ℕ) (done more E L M : List X) → Mid at place done E L → Mid place next more L M → Mid at next (done ++ more) E M
  mid_more at place next done more E L M k j =
      let same = mid_length at place done E L k in
      record {
        ends = omega (arith, k.ends, j.ends, length-append done more);
        room = omega (arith, j.room);
        is = j.is ∙ ap (λ i. spliced i more L) k.ends ∙ ap (spliced (at + length done) more) k.is ∙ splice_more at done more E (omega (arith, k.ends, k.room));
      }

  pub mid_same : (at place : ℕ) (done done' E L : List X) → done ≡ done' → Mid at place done E L → Mid at place done' E L
  mid_same at place done done' E L e k = subst (λ d. Mid at place d E L) e k
