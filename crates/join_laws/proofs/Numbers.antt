-- The lines of numbered pairs: those of a number are the ways of its pair.
use Rattle.std.proofs.Common.{◌≡◌, ℕ, zero, suc, ◌+◌, ◌<◌, ◌≤◌, Bool, true, false, cond, ◌&&◌, eqb, List, [], ◌∷◌, map, length, get_or, Some, None, Option, refl, ap, ◌∙◌, arith}
use Rattle.std.specs.List.{AllByRecursion}
use Rattle.std.proofs.ByRecursion.{All-append, All-map}
use Rattle.std.proofs.lemmas.Bool.Decides.{nat_tests}
use Rattle.alphabet.specs.Model.{Model}
use Rattle.join_laws.specs.Lists.{first, Alone}
use Rattle.join_laws.specs.Lines.{Line, fires}
use Rattle.join_laws.specs.Ways.{Way, hits}
use Rattle.join_laws.specs.Pairs.{Pair}
use Rattle.join_laws.specs.Joined.{numbered, lines_for}
use Rattle.join_laws.proofs.Firsts.{or_else, mapped, first_append, first_map, first_under, alone_append, alone_map}

alone_under : {X : Type 0} (b : Bool) (p : X → Bool) (xs : List X) → Alone p xs → Alone (λ x. b && p x) xs
alone_under b p [] a = tt
alone_under b p (x ∷ xs) a = let h = a.0 in let k = first_under b p xs in (λ e. grind arith, alone_under b p xs a.1)

module _ {G T : Type 0} (m : Model G T) (f : Pair → List (Way G T Pair)) (P : List Pair) where
  -- among the lines of the pair j, one of i is found only where they are the same
  first_head : (i j s : ℕ) (W : List (Way G T Pair)) → first (fires m i s) (map (numbered P j) W) ≡ cond (eqb j i) (mapped (numbered P j) (first (hits m s) W)) None
  first_head i j s W =
      first_map (fires m i s) (numbered P j) W
      ∙ ap (mapped (numbered P j)) (first_under (eqb j i) (hits m s) W) ∙ go (eqb j i)
    where
      go : (b : Bool) → mapped (numbered P j) (cond b (first (hits m s) W) None) ≡ cond b (mapped (numbered P j) (first (hits m s) W)) None
      go true = refl
      go false = refl

  -- no line of an earlier number
  earlier_none : (Q : List Pair) (i j s : ℕ) → i < j → first (fires m i s) (lines_for f P j Q) ≡ None
  unfolding lines_for
  earlier_none [] i j s l = refl
  earlier_none (x ∷ Q) i j s l =
      let e : eqb j i ≡ false = grind (arith, nat_tests) in
      first_append (fires m i s) (map (numbered P j) (f x)) (lines_for f P (suc j) Q)
      ∙ ap (λ o. or_else o (first (fires m i s) (lines_for f P (suc j) Q))) (first_head i j s (f x) ∙ ap (λ b. cond b (mapped (numbered P j) (first (hits m s) (f x))) None) e)
      ∙ earlier_none Q i (suc j) s (omega arith)

  pub lines_at : (Q : List Pair) (i j k s : ℕ) → i ≡ j + k → k < length Q
      → first (fires m i s) (lines_for f P j Q) ≡ mapped (numbered P i) (first (hits m s) (f (get_or Q k (0, 0))))
  unfolding lines_for
  lines_at [] i j k s e h = absurd (omega arith)
  lines_at (x ∷ Q) i j zero s e h =
      let same : j ≡ i = omega arith in
      let b : eqb j i ≡ true = grind (arith, nat_tests) in
      first_append (fires m i s) (map (numbered P j) (f x)) (lines_for f P (suc j) Q)
      ∙ ap (λ o. or_else o (first (fires m i s) (lines_for f P (suc j) Q))) (first_head i j s (f x) ∙ ap (λ b. cond b (mapped (numbered P j) (first (hits m s) (f x))) None) b)
      ∙ ap (or_else (mapped (numbered P j) (first (hits m s) (f x)))) (earlier_none Q i (suc j) s (omega arith))
      ∙ go (mapped (numbered P j) (first (hits m s) (f x)))
      ∙ ap (λ n. mapped (numbered P n) (first (hits m s) (f x))) same
    where
      go : (o : Option (Line G T)) → or_else o None ≡ o
      go None = refl
      go (Some l) = refl
  lines_at (x ∷ Q) i j (suc k) s e h =
      let b : eqb j i ≡ false = grind (arith, nat_tests) in
      first_append (fires m i s) (map (numbered P j) (f x)) (lines_for f P (suc j) Q)
      ∙ ap (λ o. or_else o (first (fires m i s) (lines_for f P (suc j) Q))) (first_head i j s (f x) ∙ ap (λ b. cond b (mapped (numbered P j) (first (hits m s) (f x))) None) b)
      ∙ lines_at Q i (suc j) k s (omega arith) (omega arith)

  pub lines_apart : (Q : List Pair) (i j s : ℕ) → ((x : Pair) → Alone (hits m s) (f x)) → Alone (fires m i s) (lines_for f P j Q)
  unfolding lines_for
  lines_apart [] i j s alone = tt
  lines_apart (x ∷ Q) i j s alone =
      alone_append (fires m i s) (map (numbered P j) (f x)) (lines_for f P (suc j) Q)
      (alone_map (fires m i s) (numbered P j) (f x) (alone_under (eqb j i) (hits m s) (f x) (alone x)))
      (lines_apart Q i (suc j) s alone) (go (eqb j i) refl)
    where
      go : (b : Bool) → eqb j i ≡ b → (first (fires m i s) (map (numbered P j) (f x)) ≡ None → ⊥) → first (fires m i s) (lines_for f P (suc j) Q) ≡ None
      go true e n = let l : i < suc j = grind (arith, nat_tests) in earlier_none Q i (suc j) s l
      go false e n = absurd (n (first_head i j s (f x) ∙ ap (λ b. cond b (mapped (numbered P j) (first (hits m s) (f x))) None) e))

  -- what holds of the lines of each pair holds of all
  pub lines_each : (R : Line G T → Type 0) (C : Pair → Type 0) (n : ℕ) → ((i : ℕ) (x : Pair) → i < n → C x → AllByRecursion (λ w. R (numbered P i w)) (f x))
      → (Q : List Pair) (j : ℕ) → AllByRecursion C Q → j + length Q ≤ n → AllByRecursion R (lines_for f P j Q)
  unfolding lines_for
  lines_each R C n h [] j all l = tt
  lines_each R C n h (x ∷ Q) j (c, all) l =
      All-append R (map (numbered P j) (f x)) (lines_for f P (suc j) Q)
      (All-map R (numbered P j) (f x) (h j x (omega arith) c)) (lines_each R C n h Q (suc j) all (omega arith))
