-- A walk along a text: what is known part of the way, one step on, where there is no move, and at the end.
use Rattle.std.proofs.Common.{◌≡◌, ℕ, ◌+◌, ◌<◌, ◌≤◌, List, [], ◌∷◌, ◌++◌, length, get_or, drop, Some, None, Option, sym, refl, ap, ◌∙◌, append_assoc, arith}
use Rattle.std.proofs.lemmas.List.{at_drop_more, at_drop_all, append-nil}
use Rattle.machine.specs.Machine.{Machine, run, moved, and_then}
use Rattle.machine.specs.Walk.{or_else, position, written}

-- i symbols of the text lead from `start` to q, and w is written for them
pub record Along (m : Machine) (text : List ℕ) (start i q : ℕ) (w : List ℕ) : Type 0 where
  pub runs : run m text start ≡ moved w (run m (drop i text) q)
  pub stands : position m text start ≡ i + position m (drop i text) q
  pub wrote : written m text start ≡ w ++ written m (drop i text) q

moved_nothing : (o : Option (ℕ × List ℕ)) → moved [] o ≡ o
moved_nothing None = refl
moved_nothing (Some r) = refl

moved_twice : (w v : List ℕ) (o : Option (ℕ × List ℕ)) → moved w (moved v o) ≡ moved (w ++ v) o
moved_twice w v None = refl
moved_twice w v (Some r) = ap (λ x. Some (r.0, x)) (sym (append_assoc w v r.1))

module _ (m : Machine) (text : List ℕ) (start : ℕ) where
  pub along_start : Along m text start 0 start []
  along_start = record { runs = sym (moved_nothing (run m text start)); stands = omega arith; wrote = refl }

  module _ (i q : ℕ) (w : List ℕ) (A : Along m text start i q w) where
    pub along_step : (r : ℕ × List ℕ) → i < length text → m.step q (get_or text i 0) ≡ Some r → Along m text start (i + 1) r.0 (w ++ r.1)
    unfolding run position written
    along_step r within e =
        let u = drop (i + 1) text in
        let a : run m (drop i text) q ≡ moved r.1 (run m u r.0) = at_drop_more (λ t. run m t q) text i 0 within ∙ ap (λ o. and_then o (λ r. moved r.1 (run m u r.0))) e in
        let b : position m (drop i text) q ≡ 1 + position m u r.0 = at_drop_more (λ t. position m t q) text i 0 within ∙ ap (λ o. or_else o 0 (λ r. 1 + position m u r.0)) e in
        let c : written m (drop i text) q ≡ r.1 ++ written m u r.0 = at_drop_more (λ t. written m t q) text i 0 within ∙ ap (λ o. or_else o [] (λ r. r.1 ++ written m u r.0)) e in
        record {
          runs = A.runs ∙ ap (moved w) a ∙ moved_twice w r.1 (run m u r.0);
          stands = omega (arith, A.stands);
          wrote = A.wrote ∙ ap (λ t. w ++ t) c ∙ sym (append_assoc w r.1 (written m u r.0));
        }

    pub along_stuck : i < length text → m.step q (get_or text i 0) ≡ None → (run m text start ≡ None) × (position m text start ≡ i) × (written m text start ≡ w)
    unfolding run position written
    along_stuck within e =
        let u = drop (i + 1) text in
        let a : run m (drop i text) q ≡ None = at_drop_more (λ t. run m t q) text i 0 within ∙ ap (λ o. and_then o (λ r. moved r.1 (run m u r.0))) e in
        let b : position m (drop i text) q ≡ 0 = at_drop_more (λ t. position m t q) text i 0 within ∙ ap (λ o. or_else o 0 (λ r. 1 + position m u r.0)) e in
        let c : written m (drop i text) q ≡ [] = at_drop_more (λ t. written m t q) text i 0 within ∙ ap (λ o. or_else o [] (λ r. r.1 ++ written m u r.0)) e in
        (A.runs ∙ ap (moved w) a, omega (arith, A.stands), A.wrote ∙ ap (λ t. w ++ t) c ∙ append-nil w)

    pub along_end : length text ≤ i → (run m text start ≡ Some (q, w)) × (written m text start ≡ w)
    unfolding run written
    along_end left = (
      A.runs ∙ ap (moved w) (at_drop_all (λ t. run m t q) text i left) ∙ ap (λ x. Some (q, x)) (append-nil w),
      A.wrote ∙ ap (λ t. w ++ t) (at_drop_all (λ t. written m t q) text i left) ∙ append-nil w,
    )

-- a run that gets through reads the whole text, and what it writes is all that is written
pub run_through : (m : Machine) (u : List ℕ) (q : ℕ) (r : ℕ × List ℕ) → run m u q ≡ Some r → (position m u q ≡ length u) × (written m u q ≡ r.1)
unfolding run position written
run_through m [] q r e = (refl, cc)
run_through m (s ∷ u) q r e = step (m.step q s) (λ p t. run_through m u p t) e
  where
    later : (t v : ℕ × List ℕ) → moved t.1 (Some v) ≡ Some r → (position m u t.0 ≡ length u) × (written m u t.0 ≡ v.1) → (1 + position m u t.0 ≡ length (s ∷ u)) × (t.1 ++ written m u t.0 ≡ r.1)
    later t v h ih = (omega arith, ap (λ w. t.1 ++ w) ih.1 ∙ cc)

    rest : (t : ℕ × List ℕ) (o : Option (ℕ × List ℕ)) → ((v : ℕ × List ℕ) → o ≡ Some v → (position m u t.0 ≡ length u) × (written m u t.0 ≡ v.1)) → moved t.1 o ≡ Some r → (1 + position m u t.0 ≡ length (s ∷ u)) × (t.1 ++ written m u t.0 ≡ r.1)
    rest t None ih h = grind arith
    rest t (Some v) ih h = later t v h (ih v refl)

    step : (o : Option (ℕ × List ℕ)) → ((p : ℕ) (t : ℕ × List ℕ) → run m u p ≡ Some t → (position m u p ≡ length u) × (written m u p ≡ t.1)) → and_then o (λ r. moved r.1 (run m u r.0)) ≡ Some r → (or_else o 0 (λ r. 1 + position m u r.0) ≡ length (s ∷ u)) × (or_else o [] (λ r. r.1 ++ written m u r.0) ≡ r.1)
    step None ih h = grind arith
    step (Some t) ih h = rest t (run m u t.0) (λ v e. ih t.0 v e) h
