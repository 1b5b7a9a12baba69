-- Final outputs written one after another.
use Rattle.std.proofs.Common.{◌≡◌, ℕ, ◌+◌, ◌<◌, ◌≤◌, List, [], ◌∷◌, ◌++◌, map, length, get_or, take, drop, set, Some, None, Option, sym, refl, ap, ◌∙◌, subst, append_assoc, append-nil, arith}
use Rattle.std.specs.List.{AllByRecursion}
use Rattle.std.proofs.ByRecursion.{All-append}
use Rattle.std.proofs.lemmas.List.{length-append, map-append, take_more, take_all, take-append-drop}
use Rattle.alphabet.specs.Model.{Model}
use Rattle.table.specs.declared.entries.State.{State}
use Rattle.join_laws.specs.Lists.{gathered}
use Rattle.join_laws.specs.Lines.{state_of, constants}
use Rattle.join_ways.specs.Written.{spliced}
use Rattle.join_ways.proofs.Splices.{splice_none, Mid, mid_none, mid_push, mid_more, mid_length}
use Rattle.join_states.specs.Ended.{Room}

pub gathered_append : {X Y : Type 0} (f : X → List Y) (xs ys : List X) → gathered f (xs ++ ys) ≡ gathered f xs ++ gathered f ys
gathered_append f [] ys = refl
gathered_append f (x ∷ xs) ys = ap (λ l. f x ++ l) (gathered_append f xs ys) ∙ sym (append_assoc (f x) (gathered f xs) (gathered f ys))

module _ {G T : Type 0} (m : Model G T) (at : ℕ) (os : List (Option (List ℕ))) (S : List State) (O : List T) where
  -- the first i final outputs are done
  pub record Ending (i place : ℕ) (S' : List State) (O' : List T) : Type 0 where
    pub states_mid : Mid 0 i (map state_of (take i os)) S S'
    pub outputs_mid : Mid at place (gathered (constants m) (take i os)) O O'
    pub short : AllByRecursion (λ o. (state_of o).finals ≤ 32) (take i os)

  pub ending_none : at ≤ length O → Ending 0 at S O
  ending_none h = record { states_mid = mid_none 0 S (omega arith); outputs_mid = mid_none at O h; short = tt }

  module _ (i place : ℕ) (S' : List State) (O' : List T) (E : Ending i place S' O') where
    module _ (o : Option (List ℕ)) (h : i < length os) (is : o ≡ get_or os i None) where
      front : take (i + 1) os ≡ take i os ++ o ∷ []
      front = take_more os i None h ∙ ap (λ x. take i os ++ x ∷ []) (sym is)

      outs : gathered (constants m) (take i os) ++ constants m o ≡ gathered (constants m) (take (i + 1) os)
      outs = ap (λ l. gathered (constants m) (take i os) ++ l) (sym (append-nil (constants m o))) ∙ sym (gathered_append (constants m) (take i os) (o ∷ [])) ∙ ap (gathered (constants m)) (sym front)

      pub ending_more : length os ≤ length S → (n : ℕ) (O'' : List T) → n ≡ place + length (constants m o) → O'' ≡ spliced place (constants m o) O' → Room m place (o ∷ []) O' → Ending (i + 1) n (set S' i (state_of o)) O''
      ending_more room n O'' e w r =
          let same = mid_length 0 i (map state_of (take i os)) S S' E.states_mid in
          record {
            states_mid = subst (λ l. Mid 0 (i + 1) l S (set S' i (state_of o))) (sym (ap (map state_of) front ∙ map-append state_of (take i os) (o ∷ []))) (mid_push 0 i (map state_of (take i os)) S S' (state_of o) E.states_mid (omega arith));
            outputs_mid = subst (λ l. Mid at n l O O'') outs (mid_more at place n (gathered (constants m) (take i os)) (constants m o) O O' O'' E.outputs_mid
                (record { ends = e; room = omega (arith, r.fits, ap length (append-nil (constants m o))); is = w }));
            short = subst (AllByRecursion (λ x. (state_of x).finals ≤ 32)) (sym front) (All-append (λ x. (state_of x).finals ≤ 32) (take i os) (o ∷ []) E.short r.short);
          }

      pub ending_refused : (Room m place (o ∷ []) O' → ⊥) → Room m at os O → ⊥
      ending_refused over r =
          let whole : take i os ++ (o ∷ drop (i + 1) os) ≡ os = sym (append_assoc (take i os) (o ∷ []) (drop (i + 1) os)) ∙ ap (λ l. l ++ drop (i + 1) os) (sym front) ∙ take-append-drop (i + 1) os in
          let long = mid_length at place (gathered (constants m) (take i os)) O O' E.outputs_mid in
          let sum = ap length (sym (gathered_append (constants m) (take i os) (o ∷ drop (i + 1) os)) ∙ ap (gathered (constants m)) whole) in
          over (record {
            short = (middle (take i os) (subst (AllByRecursion (λ x. (state_of x).finals ≤ 32)) (sym whole) r.short), tt);
            fits = omega (arith, r.fits, sum, E.outputs_mid.ends, length-append (gathered (constants m) (take i os)) (constants m o ++ gathered (constants m) (drop (i + 1) os)), length-append (constants m o) (gathered (constants m) (drop (i + 1) os)), ap length (append-nil (constants m o)));
          })
        where
          middle : (xs : List (Option (List ℕ))) → AllByRecursion (λ x. (state_of x).finals ≤ 32) (xs ++ (o ∷ drop (i + 1) os)) → (state_of o).finals ≤ 32
          middle [] all = all.0
          middle (x ∷ xs) all = middle xs all.1

    pub ending_done : length os ≤ i → (place ≡ at + length (gathered (constants m) os)) × (S' ≡ spliced 0 (map state_of os) S) × (O' ≡ spliced at (gathered (constants m) os) O) × Room m at os O
    ending_done h =
        let e = take_all i os h in
        let out = subst (λ l. Mid at place (gathered (constants m) l) O O') e E.outputs_mid in
        (out.ends, subst (λ l. S' ≡ spliced 0 (map state_of l) S) e E.states_mid.is, out.is, record { short = subst (AllByRecursion (λ x. (state_of x).finals ≤ 32)) e E.short; fits = omega (arith, out.ends, out.room) })

-- one final output
module _ {G T : Type 0} (m : Model G T) (at : ℕ) (O : List T) where
  -- its state, and where it was written
  abbrev pub Done : State → ℕ → Option (List ℕ) → List T → Type 0
  Done s end o O' = (s ≡ state_of o) × (end ≡ at + length (constants m o)) × (O' ≡ spliced at (constants m o) O) × Room m at (o ∷ []) O

  pub ended_none : (o : Option (List ℕ)) → o ≡ None → at ≤ length O → Done (record { mark = 0; finals = 0 }) at o O
  ended_none o e h =
      subst (λ x. Done (record { mark = 0; finals = 0 }) at x O) (sym e)
      (refl, omega arith, sym (splice_none at O), record { short = (omega arith, tt); fits = omega arith })

  module _ (o : Option (List ℕ)) (w : List ℕ) (is : o ≡ Some w) where
    pub ended_long : 32 < length w → Room m at (o ∷ []) O → ⊥
    ended_long h r = let s = subst (λ x. (state_of x).finals ≤ 32) is r.short.0 in omega arith

    pub ended_over : length O < at + length (map m.constant w) → Room m at (o ∷ []) O → ⊥
    ended_over h r =
        let f = subst (λ x. at + length (gathered (constants m) (x ∷ [])) ≤ length O) is r.fits in
        omega (arith, f, ap length (append-nil (map m.constant w)))

    pub ended_some : (count end : ℕ) (O' : List T) → length w ≡ count → count ≤ 32 → end ≡ at + length (map m.constant w) → end ≤ length O → O' ≡ spliced at (map m.constant w) O
        → Done (record { mark = 1; finals = count }) end o O'
    ended_some count end O' size short e room wrote =
        subst (λ x. Done (record { mark = 1; finals = count }) end x O') (sym is)
        (ap (λ n. record { mark = 1; finals = n }) (sym size), e, wrote, record { short = (omega arith, tt); fits = omega (arith, ap length (append-nil (map m.constant w))) })
