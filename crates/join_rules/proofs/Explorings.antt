-- The pairs that are taken one after another: what holds between two of them, and in the end.
use Rattle.std.proofs.Common.{◌≡◌, ℕ, suc, ◌+◌, ◌-◌, ◌*◌, ◌<◌, ◌≤◌, List, [], ◌∷◌, ◌++◌, map, length, get_or, take, drop, sym, refl, ap, ◌∙◌, subst, append_assoc, append-nil, arith}
use Rattle.std.specs.List.{AllByRecursion}
use Rattle.std.proofs.ByRecursion.{All-from_get_or}
use Rattle.std.proofs.lemmas.List.{take-append-le, take_more, take_all, take-append-drop, get_or-take, length-take-le}
use Rattle.alphabet.specs.Model.{Model}
use Rattle.alphabet.specs.Laws.{Lawful}
use Rattle.table.specs.declared.entries.Rule.{Rule}
use Rattle.table.specs.Table.{Table}
use Rattle.table.specs.Sound.{Sound}
use Rattle.join_laws.specs.Ways.{Way}
use Rattle.join_laws.specs.Pairs.{Pair, met_all, explored}
use Rattle.join_laws.specs.Joined.{numbered, lines_for, ways_at, targets_at, pairs}
use Rattle.join_laws.proofs.Pairs.{targets_within}
use Rattle.join_laws.proofs.Places.{In, Begins, begins_trans, begins_length, met_all_begins, few}
use Rattle.join_laws.proofs.Explores.{Taken, taken_start, taken_next, explored_next, explored_done, explored_begins}
use Rattle.join_ways.specs.Added.{Counts, Fits, Added}
use Rattle.join_ways.proofs.Adds.{added_none, added_more, fits_front, fits_rest}
use Rattle.join_rules.specs.PairRules.{targets}
use Rattle.join_rules.proofs.Walkings.{numbered_same, fits_numbers, Took}

take_begins : (P Q : List Pair) (n : ℕ) → Begins P Q → n ≤ length P → take n Q ≡ take n P
take_begins P Q n (S, e) h = ap (take n) (sym e) ∙ take-append-le n P S h

module _ {G T : Type 0} (f : Pair → List (Way G T Pair)) where
  lines_append : (P : List Pair) (A B : List Pair) (j : ℕ) → lines_for f P j (A ++ B) ≡ lines_for f P j A ++ lines_for f P (j + length A) B
  unfolding lines_for
  lines_append P [] B j = let e : j ≡ j + 0 = omega arith in ap (λ i. lines_for f P i B) e
  lines_append P (x ∷ A) B j =
      let e : suc j + length A ≡ j + length (x ∷ A) = omega arith in
      ap (λ l. map (numbered P j) (f x) ++ l) (lines_append P A B (suc j) ∙ ap (λ i. lines_for f P (suc j) A ++ lines_for f P i B) e)
      ∙ sym (append_assoc (map (numbered P j) (f x)) (lines_for f P (suc j) A) (lines_for f P (j + length (x ∷ A)) B))

  lines_push : (P : List Pair) (A : List Pair) (x : Pair) (k : ℕ) → length A ≡ k → lines_for f P 0 (A ++ x ∷ []) ≡ lines_for f P 0 A ++ map (numbered P k) (f x)
  unfolding lines_for
  lines_push P A x k e =
      let h : 0 + length A ≡ k = omega arith in
      lines_append P A (x ∷ []) 0 ∙ ap (λ l. lines_for f P 0 A ++ l) (append-nil (map (numbered P (0 + length A)) (f x)) ∙ ap (λ i. map (numbered P i) (f x)) h)

  lines_kept : (P Q : List Pair) → Begins P Q → (A : List Pair) (j : ℕ) → AllByRecursion (λ x. AllByRecursion (In P) (targets (f x))) A → lines_for f P j A ≡ lines_for f Q j A
  unfolding lines_for
  lines_kept P Q b [] j all = refl
  lines_kept P Q b (x ∷ A) j all =
      ap (λ l. l ++ lines_for f P (suc j) A) (numbered_same P Q j b (f x) all.0) ∙ ap (λ l. map (numbered Q j) (f x) ++ l) (lines_kept P Q b A (suc j) all.1)

module _ {G T : Type 0} (m : Model G T) (F H : Table G T) (room : ℕ) (c : Counts) (R : List (Rule G)) (O : List T) where
  -- the first k of the pairs P were taken
  pub record Exploring (k : ℕ) (P : List Pair) (d : Counts) (R' : List (Rule G)) (O' : List T) : Type 0 where
    pub taken : Taken (targets_at m F H) (length F.states) (length H.states) k P
    pub left : explored (targets_at m F H) (length F.states * length H.states - k) k P ≡ pairs m F H
    pub added : Added c d (lines_for (ways_at m F H) P 0 (take k P)) R R' O O'
    pub low : length P ≤ room

module _ {G T : Type 0} (m : Model G T) (law : Lawful m) (F H : Table G T) (ok_f : Sound m F) (ok_h : Sound m H) (room : ℕ) (c : Counts) (R : List (Rule G)) (O : List T) where
  pub exploring_start : 1 ≤ room → c.rules ≤ length R → c.outputs ≤ length O → Exploring m F H room c R O 0 ((0, 0) ∷ []) c R O
  unfolding lines_for pairs
  exploring_start h r o = record {
    taken = taken_start (targets_at m F H) (length F.states) (length H.states) (targets_within m law F H ok_f ok_h) ok_f.some_state ok_h.some_state;
    left = let e : length F.states * length H.states - 0 ≡ length F.states * length H.states = omega arith in ap (λ n. explored (targets_at m F H) n 0 ((0, 0) ∷ [])) e;
    added = added_none c R O r o;
    low = h;
  }

  module _ (k : ℕ) (P : List Pair) (d : Counts) (R' : List (Rule G)) (O' : List T) (V : Exploring m F H room c R O k P d R' O') where
    pub exploring_end : length P ≤ k → (P ≡ pairs m F H) × Added c d (lines_for (ways_at m F H) (pairs m F H) 0 (pairs m F H)) R R' O O'
    exploring_end h =
        let same : P ≡ pairs m F H = sym (explored_done (targets_at m F H) (length F.states * length H.states - k) k P h) ∙ V.left in
        (same, subst (λ Q. Added c d (lines_for (ways_at m F H) Q 0 Q) R R' O O') same (subst (λ Q. Added c d (lines_for (ways_at m F H) P 0 Q) R R' O O') (take_all k P h) V.added))

    module _ (x : Pair) (h : k < length P) (is : x ≡ get_or P k (0, 0)) where
      met_now : met_all P (targets (ways_at m F H x)) ≡ met_all P (targets_at m F H (get_or P k (0, 0)))
      met_now = ap (λ y. met_all P (targets_at m F H y)) is

      next_left : explored (targets_at m F H) (length F.states * length H.states - (k + 1)) (k + 1) (met_all P (targets (ways_at m F H x))) ≡ pairs m F H
      next_left =
          let all = few (length F.states) (length H.states) P V.taken.distinct V.taken.within in
          let n = length F.states * length H.states - (k + 1) in
          let fuel : length F.states * length H.states - k ≡ suc n = omega arith in
          let one : k + 1 ≡ suc k = omega arith in
          ap (λ i. explored (targets_at m F H) n i (met_all P (targets (ways_at m F H x)))) one
          ∙ ap (explored (targets_at m F H) n (suc k)) met_now
          ∙ sym (explored_next (targets_at m F H) n k P h)
          ∙ ap (λ i. explored (targets_at m F H) i k P) (sym fuel) ∙ V.left

      closed_lines : AllByRecursion (λ y. AllByRecursion (In P) (targets (ways_at m F H y))) (take k P)
      closed_lines =
          let long : length (take k P) ≡ k = length-take-le k P (omega arith) in
          All-from_get_or (λ y. AllByRecursion (In P) (targets (ways_at m F H y))) (take k P) (0, 0)
          (λ i l. let b : i < k = omega arith in subst (λ y. AllByRecursion (In P) (targets (ways_at m F H y))) (sym (get_or-take k P i (0, 0) b)) (V.taken.closed i b))

      -- the lines so far and those of this pair, in a longer list of pairs
      lines_on : (Q : List Pair) → Begins P Q → lines_for (ways_at m F H) P 0 (take k P) ++ map (numbered Q k) (ways_at m F H x) ≡ lines_for (ways_at m F H) Q 0 (take (k + 1) Q)
      lines_on Q b =
          let front : take (k + 1) Q ≡ take k P ++ x ∷ [] = take_begins P Q (k + 1) b (omega arith) ∙ take_more P k (0, 0) h ∙ ap (λ y. take k P ++ y ∷ []) (sym is) in
          ap (λ l. l ++ map (numbered Q k) (ways_at m F H x)) (lines_kept (ways_at m F H) P Q b (take k P) 0 closed_lines)
          ∙ sym (lines_push (ways_at m F H) Q (take k P) x k (length-take-le k P (omega arith))) ∙ ap (lines_for (ways_at m F H) Q 0) (sym front)

      pub exploring_next : (d' : Counts) (Q : List Pair) (R'' : List (Rule G)) (O'' : List T) → Took k (ways_at m F H x) P room d d' R' O' Q R'' O'' → Exploring m F H room c R O (k + 1) Q d' R'' O''
      exploring_next d' Q R'' O'' t =
          let grows : Begins P Q = subst (Begins P) (sym t.0) (met_all_begins P (targets (ways_at m F H x))) in
          let one : suc k ≡ k + 1 = omega arith in
          record {
            taken = subst (λ i. Taken (targets_at m F H) (length F.states) (length H.states) i Q) one
                (subst (Taken (targets_at m F H) (length F.states) (length H.states) (suc k)) (sym (t.0 ∙ met_now))
                (taken_next (targets_at m F H) (length F.states) (length H.states) (targets_within m law F H ok_f ok_h) k P V.taken h));
            left = ap (explored (targets_at m F H) (length F.states * length H.states - (k + 1)) (k + 1)) t.0 ∙ next_left;
            added = subst (λ ls. Added c d' ls R R'' O O'') (lines_on Q grows)
                (added_more c d (lines_for (ways_at m F H) P 0 (take k P)) R R' O O' V.added (map (numbered Q k) (ways_at m F H x)) d' R'' O'' t.2);
            low = t.1;
          }

      pub exploring_refused : (let Q = met_all P (targets (ways_at m F H x)) in length Q ≤ room → Fits d (map (numbered Q k) (ways_at m F H x)) R' O' → ⊥)
          → length (pairs m F H) ≤ room → Fits c (lines_for (ways_at m F H) (pairs m F H) 0 (pairs m F H)) R O → ⊥
      exploring_refused over low fits =
          let Q = met_all P (targets (ways_at m F H x)) in
          let F₀ = pairs m F H in
          let later : Begins Q F₀ = subst (Begins Q) next_left (explored_begins (targets_at m F H) (length F.states * length H.states - (k + 1)) (k + 1) Q) in
          let grows : Begins P F₀ = begins_trans P Q F₀ (met_all_begins P (targets (ways_at m F H x))) later in
          let split = sym (ap (lines_for (ways_at m F H) F₀ 0) (take-append-drop (k + 1) F₀)) ∙ lines_append (ways_at m F H) F₀ (take (k + 1) F₀) (drop (k + 1) F₀) 0 in
          let f₁ = fits_front c (lines_for (ways_at m F H) F₀ 0 (take (k + 1) F₀)) (lines_for (ways_at m F H) F₀ (0 + length (take (k + 1) F₀)) (drop (k + 1) F₀)) R O (subst (λ ls. Fits c ls R O) split fits) in
          let f₂ = subst (λ ls. Fits c ls R O) (sym (lines_on F₀ grows)) f₁ in
          let f₃ = fits_rest c d (lines_for (ways_at m F H) P 0 (take k P)) R R' O O' V.added (map (numbered F₀ k) (ways_at m F H x)) f₂ in
          over (omega (arith, low, begins_length Q F₀ later)) (fits_numbers d F₀ Q k (ways_at m F H x) R' O' f₃)
