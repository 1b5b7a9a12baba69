-- One turn of the search for a pair, and of numbering rules.
use Rattle.std.proofs.Common.{◌≡◌, ℕ, ◌+◌, ◌<◌, ◌≤◌, cond, ◌&&◌, eqb, ltb, List, [], ◌∷◌, ◌++◌, map, length, get_or, take, drop, set, Some, None, Ok, Err, Result, sym, refl, ap, ◌∙◌, subst, append_assoc, arith}
use Rattle.std.specs.List.{AllByRecursion, position_or_len}
use Rattle.std.proofs.lemmas.List.{drop_more, take_more, map-append, length-append, length-map, length-take, length-take-le, take-append-drop, set_at, get_or_at, take_all, drop_all, append-nil}
use Rattle.std.proofs.lemmas.Bool.Decides.{nat_tests}
use Rattle.queue.specs.declared.store.Queue.{Queue}
use Rattle.queue.specs.Held.{entries, room}
use Rattle.table.specs.declared.entries.Rule.{Rule}
use Rattle.join_laws.specs.Pairs.{Pair, place, met, met_all}
use Rattle.join_laws.proofs.Places.{In, Begins, met_new, place_new, begins_place, met_begins, met_all_begins, met_all_in, met_all_append, begins_length}
use Rattle.join_pairs.specs.Meets.{known, targets_of, renumbered}

-- the library's search finds the place
pub place_position : (P : List Pair) (x : Pair) → position_or_len (λ (y : Pair). eqb y.0 x.0 && eqb y.1 x.1) P ≡ place P x
place_position [] x = refl
place_position (y ∷ P) x = let e = place_position P x in grind (arith, nat_tests)

-- no more entries than slots
pub entries_fit : {T : Type 0} (q : Queue T) → length (entries q) ≤ room q
entries_fit q = simp length-take (omega arith)

-- a pair that was met has its place, and one that was not has none
pub meets_known : (P : List Pair) (x : Pair) (room n : ℕ) → known P x ≡ Some n → length P ≤ room → (P ≡ met P x) × (n ≡ place P x) × (length P ≤ room)
meets_known P x room n e h = (grind (arith, nat_tests), grind (arith, nat_tests), h)

pub unknown_new : (P : List Pair) (x : Pair) → known P x ≡ None → length P ≤ place P x
unknown_new P x e = grind (arith, nat_tests)

module _ {G : Type 0} (p : ℕ) (P₀ : List Pair) (rules₀ : List (Rule G)) where
  -- the first i rules are numbered
  pub record Partly (i : ℕ) (P : List Pair) (rules : List (Rule G)) : Type 0 where
    pub met_are : P ≡ met_all P₀ (targets_of p (take i rules₀))
    pub rules_are : rules ≡ map (renumbered P p) (take i rules₀) ++ drop i rules₀

  pub partly_none : Partly 0 P₀ rules₀
  partly_none = record { met_are = refl; rules_are = refl }

  -- numbers last when more pairs are met
  renumbered_same : (P Q : List Pair) → Begins P Q → (rs : List (Rule G)) → AllByRecursion (In P) (targets_of p rs) → map (renumbered P p) rs ≡ map (renumbered Q p) rs
  renumbered_same P Q b [] all = refl
  renumbered_same P Q b (r ∷ rs) all =
      ap (λ n. record { state = r.state; next = n; outputs = r.outputs; guard = r.guard } ∷ map (renumbered P p) rs) (sym (begins_place P Q b (p, r.next) all.0))
      ∙ ap (λ l. renumbered Q p r ∷ l) (renumbered_same P Q b rs all.1)

  module _ (i : ℕ) (P : List Pair) (rules : List (Rule G)) (k : Partly i P rules) (h : i < length rules₀) where
    front : length (map (renumbered P p) (take i rules₀)) ≡ i
    front = length-map (take i rules₀) (renumbered P p) ∙ length-take-le i rules₀ (omega arith)

    pub partly_length : length rules ≡ length rules₀
    partly_length =
        omega (arith, ap length k.rules_are, length-append (map (renumbered P p) (take i rules₀)) (drop i rules₀), front, ap length (take-append-drop i rules₀), length-append (take i rules₀) (drop i rules₀), length-take-le i rules₀ (omega arith))

    -- the rule that is read is still the one that was there
    pub partly_read : (r : Rule G) → r ≡ get_or rules i r → r ≡ get_or rules₀ i r
    partly_read r e =
        e ∙ ap (λ l. get_or l i r) (k.rules_are ∙ ap (λ l. map (renumbered P p) (take i rules₀) ++ l) (drop_more rules₀ i r h))
        ∙ get_or_at (map (renumbered P p) (take i rules₀)) (get_or rules₀ i r) (drop (i + 1) rules₀) r i front

    module _ (r : Rule G) (read : r ≡ get_or rules₀ i r) where
      targets_more : targets_of p (take (i + 1) rules₀) ≡ targets_of p (take i rules₀) ++ (p, r.next) ∷ []
      targets_more =
          ap (targets_of p) (take_more rules₀ i r h ∙ ap (λ x. take i rules₀ ++ x ∷ []) (sym read))
          ∙ map-append (λ (x : Rule G). (p, x.next)) (take i rules₀) (r ∷ [])

      pub met_more : met P (p, r.next) ≡ met_all P₀ (targets_of p (take (i + 1) rules₀))
      met_more =
          ap (λ l. met l (p, r.next)) k.met_are
          ∙ sym (met_all_append P₀ (targets_of p (take i rules₀)) ((p, r.next) ∷ [])) ∙ ap (met_all P₀) (sym targets_more)

      pub partly_more : Partly (i + 1) (met P (p, r.next)) (set rules i (renumbered (met P (p, r.next)) p r))
      partly_more =
          let Q = met P (p, r.next) in
          let a = map (renumbered P p) (take i rules₀) in
          record {
            met_are = met_more;
            rules_are =
                ap (λ l. set l i (renumbered Q p r)) (k.rules_are ∙ ap (λ l. a ++ l) (drop_more rules₀ i r h))
                ∙ set_at a (get_or rules₀ i r) (drop (i + 1) rules₀) (renumbered Q p r) i front
                ∙ ap (λ l. l ++ renumbered Q p r ∷ drop (i + 1) rules₀) (renumbered_same P Q (met_begins P (p, r.next)) (take i rules₀) (subst (λ l. AllByRecursion (In l) (targets_of p (take i rules₀))) (sym k.met_are) (met_all_in P₀ (targets_of p (take i rules₀)))))
                ∙ sym (append_assoc (map (renumbered Q p) (take i rules₀)) (renumbered Q p r ∷ []) (drop (i + 1) rules₀))
                ∙ ap (λ l. l ++ drop (i + 1) rules₀) (sym (map-append (renumbered Q p) (take i rules₀) (r ∷ [])) ∙ ap (map (renumbered Q p)) (sym (take_more rules₀ i r h ∙ ap (λ x. take i rules₀ ++ x ∷ []) (sym read))));
          }

      -- a pair that has no room is one too many of all
      pub partly_over : (room : ℕ) → room < length (met P (p, r.next)) → room < length (met_all P₀ (targets_of p rules₀))
      partly_over room over =
          let ts = targets_of p (take (i + 1) rules₀) in
          let us = targets_of p (drop (i + 1) rules₀) in
          let whole : met_all (met_all P₀ ts) us ≡ met_all P₀ (targets_of p rules₀) =
          sym (met_all_append P₀ ts us) ∙ ap (met_all P₀) (sym (map-append (λ (x : Rule G). (p, x.next)) (take (i + 1) rules₀) (drop (i + 1) rules₀)) ∙ ap (targets_of p) (take-append-drop (i + 1) rules₀)) in
          omega (arith, ap length met_more, begins_length (met_all P₀ ts) (met_all (met_all P₀ ts) us) (met_all_begins (met_all P₀ ts) us), ap length whole)

  pub partly_done : (i : ℕ) (P : List Pair) (rules : List (Rule G)) → Partly i P rules → length rules₀ ≤ i → (P ≡ met_all P₀ (targets_of p rules₀)) × (rules ≡ map (renumbered P p) rules₀)
  partly_done i P rules k h = (
    k.met_are ∙ ap (λ l. met_all P₀ (targets_of p l)) (take_all i rules₀ h),
    k.rules_are ∙ ap (λ l. map (renumbered P p) l ++ drop i rules₀) (take_all i rules₀ h) ∙ ap (λ l. map (renumbered P p) rules₀ ++ l) (drop_all i rules₀ h) ∙ append-nil (map (renumbered P p) rules₀),
  )

-- a number for a new entry, or none
pub number_given : {E : Type 0} (a r n : ℕ) (e : E) → ◌≡◌ {A = Result ℕ E} (Ok n) (cond (ltb a r) (Ok a) (Err e)) → (n ≡ a) × (a < r)
number_given a r n e h = (grind (arith, nat_tests), grind (arith, nat_tests))

pub number_refused : {E : Type 0} (a r : ℕ) (d e : E) → ◌≡◌ {A = Result ℕ E} (Err d) (cond (ltb a r) (Ok a) (Err e)) → r ≤ a
number_refused a r d e h = grind (arith, nat_tests)

module _ (P : List Pair) (x : Pair) (room : ℕ) (new : length P ≤ place P x) where
  pub meets_new : (P' : List Pair) (n : ℕ) → P' ≡ P ++ x ∷ [] → n ≡ length P → length P < room → (P' ≡ met P x) × (n ≡ place P' x) × (length P' ≤ room)
  meets_new P' n e f h =
      (e ∙ sym (met_new P x new), f ∙ sym (place_new P [] x new) ∙ ap (λ l. place l x) (sym e), omega (arith, ap length e, length-append P (x ∷ [])))

  pub meets_full : room ≤ length P → room < length (met P x)
  meets_full h = omega (arith, ap length (met_new P x new), length-append P (x ∷ []))
