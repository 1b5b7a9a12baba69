-- The exploration of pairs: it keeps the pairs that it has, and in the end no target is missing.
use Rattle.std.proofs.Common.{◌≡◌, ℕ, zero, suc, ◌+◌, ◌*◌, ◌<◌, ◌≤◌, Bool, true, false, cond, ltb, List, [], ◌∷◌, length, get_or, sym, refl, ap, ◌∙◌, subst, arith}
use Rattle.std.specs.List.{AllByRecursion}
use Rattle.std.proofs.ByRecursion.{All-weaker, All-get_or}
use Rattle.std.proofs.lemmas.Bool.Decides.{nat_tests}
use Rattle.join_laws.specs.Pairs.{Pair, met_all, explored}
use Rattle.join_laws.proofs.Pairs.{Within}
use Rattle.join_laws.proofs.Places.{In, Distinct, Begins, begins_refl, begins_trans, begins_length, begins_in, begins_at, met_all_begins, met_all_in, met_all_distinct, met_all_all, few}

-- the targets of the first k pairs have numbers
abbrev pub Closed : (Pair → List Pair) → ℕ → List Pair → Type 0
Closed targets k P = (i : ℕ) → i < k → AllByRecursion (In P) (targets (get_or P i (0, 0)))

module _ (targets : Pair → List Pair) where
  pub explored_next : (n k : ℕ) (P : List Pair) → k < length P → explored targets (suc n) k P ≡ explored targets n (suc k) (met_all P (targets (get_or P k (0, 0))))
  unfolding explored
  explored_next n k P h = let e : ltb k (length P) ≡ true = grind (arith, nat_tests) in rw e

  pub explored_done : (n k : ℕ) (P : List Pair) → length P ≤ k → explored targets n k P ≡ P
  unfolding explored
  explored_done zero k P h = refl
  explored_done (suc n) k P h = let e : ltb k (length P) ≡ false = grind (arith, nat_tests) in rw e

  -- by whether pair k is there
  explored_cases : (Q : List Pair → Type 0) (n k : ℕ) (P : List Pair)
      → (k < length P → Q (explored targets n (suc k) (met_all P (targets (get_or P k (0, 0)))))) → (length P ≤ k → Q P) → Q (explored targets (suc n) k P)
  unfolding explored
  explored_cases Q n k P more done = go (ltb k (length P)) refl
    where
      go : (b : Bool) → ltb k (length P) ≡ b → Q (cond b (explored targets n (suc k) (met_all P (targets (get_or P k (0, 0))))) P)
      go true e = more (grind (arith, nat_tests))
      go false e = done (grind (arith, nat_tests))

  pub explored_begins : (n k : ℕ) (P : List Pair) → Begins P (explored targets n k P)
  unfolding explored
  explored_begins zero k P = begins_refl P
  explored_begins (suc n) k P =
      let Q = met_all P (targets (get_or P k (0, 0))) in
      explored_cases (Begins P) n k P
      (λ _. begins_trans P Q (explored targets n (suc k) Q) (met_all_begins P (targets (get_or P k (0, 0)))) (explored_begins n (suc k) Q)) (λ _. begins_refl P)

  -- the first k pairs were taken
  pub record Taken (a b k : ℕ) (P : List Pair) : Type 0 where
    pub there : k ≤ length P
    pub distinct : Distinct P
    pub within : AllByRecursion (Within a b) P
    pub closed : Closed targets k P

  module _ (a b : ℕ) (keeps : (x : Pair) → Within a b x → AllByRecursion (Within a b) (targets x)) where
    pub taken_start : 0 < a → 0 < b → Taken a b 0 ((0, 0) ∷ [])
    taken_start ha hb = record {
      there = omega arith;
      distinct = λ i h. let e : i ≡ 0 = omega arith in rw e;
      within = ((ha, hb), tt);
      closed = λ i h. absurd (omega arith);
    }

    pub taken_next : (k : ℕ) (P : List Pair) → Taken a b k P → k < length P → Taken a b (suc k) (met_all P (targets (get_or P k (0, 0))))
    taken_next k P t h =
        let xs = targets (get_or P k (0, 0)) in
        let Q = met_all P xs in
        let grows = met_all_begins P xs in
        let longer = begins_length P Q grows in
        record {
          there = omega arith;
          distinct = met_all_distinct P xs t.distinct;
          within = met_all_all (Within a b) P xs t.within (keeps (get_or P k (0, 0)) (All-get_or (Within a b) P k (0, 0) h t.within));
          closed = λ i l. closes grows i l (ltb i k) refl;
        }
      where
        closes : Begins P (met_all P (targets (get_or P k (0, 0)))) → (i : ℕ) → i < suc k → (c : Bool) → ltb i k ≡ c
            → AllByRecursion (In (met_all P (targets (get_or P k (0, 0))))) (targets (get_or (met_all P (targets (get_or P k (0, 0)))) i (0, 0)))
        closes grows i l true e =
            let Q = met_all P (targets (get_or P k (0, 0))) in
            let before : i < k = grind (arith, nat_tests) in
            let same = begins_at P Q grows i (omega (arith, t.there)) in
            subst (λ x. AllByRecursion (In Q) (targets x)) (sym same) (All-weaker (In P) (In Q) (begins_in P Q grows) (targets (get_or P i (0, 0))) (t.closed i before))
        closes grows i l false e =
            let Q = met_all P (targets (get_or P k (0, 0))) in
            let here : k ≡ i = grind (arith, nat_tests) in
            let same = begins_at P Q grows k h in
            subst (λ x. AllByRecursion (In Q) (targets x)) (sym same ∙ ap (λ j. get_or Q j (0, 0)) here) (met_all_in P (targets (get_or P k (0, 0))))

    -- with fuel for all pairs that there can be, every pair is taken
    pub explored_taken : (n k : ℕ) (P : List Pair) → Taken a b k P → a * b ≤ n + k → let Q = explored targets n k P in Taken a b (length Q) Q
    unfolding explored
    explored_taken zero k P t enough =
        let all = few a b P t.distinct t.within in
        let e : k ≡ length P = omega (arith, t.there) in
        rw (← e) t
    explored_taken (suc n) k P t enough =
        explored_cases (λ Q. Taken a b (length Q) Q) n k P
        (λ h. explored_taken n (suc k) (met_all P (targets (get_or P k (0, 0)))) (taken_next k P t h) (omega arith))
        (λ h. let e : k ≡ length P = omega (arith, t.there) in rw (← e) t)
