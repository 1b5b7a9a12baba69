-- The search for the first rule that clashes with an earlier one: its turns.
use Rattle.std.proofs.Common.{◌≡◌, ℕ, zero, suc, ◌+◌, ◌<◌, Bool, true, false, not, ◌||◌, List, [], ◌∷◌, ◌++◌, length, get_or, take, drop, Err, sym, ap, ◌∙◌, arith}
use Rattle.std.proofs.lemmas.List.{at_drop_more, take_more}
use Rattle.alphabet.specs.Model.{Model}
use Rattle.table.specs.declared.entries.Rule.{Rule}
use Rattle.table.specs.declared.fault.TableFault.TheVariants.{Overlap}
use Rattle.table.specs.Check.{next, unless, clash, clashes, check_overlaps_lem}

-- a list with an index has an item
pub some_item : {X : Type 0} (xs : List X) (i : ℕ) → i < length xs → X
some_item [] i within = absurd (omega arith)
some_item (x ∷ xs) i within = x

module _ {G T : Type 0} (m : Model G T) where
  clashes_push : (r : Rule G) (es : List (Rule G)) (e : Rule G) → clashes m r (es ++ e ∷ []) ≡ (clashes m r es || clash m r e)
  clashes_push r [] e = grind arith
  clashes_push r (x ∷ es) e = let ih = clashes_push r es e in grind arith

  clashes_at : (r d : Rule G) (es : List (Rule G)) (n j : ℕ) → j < n → n < length es → clash m r (get_or es j d) ≡ true → clashes m r (take n es) ≡ true
  clashes_at r d [] n j before within here = absurd (omega arith)
  clashes_at r d (e ∷ es) zero j before within here = absurd (omega arith)
  clashes_at r d (e ∷ es) (suc n) zero before within here = grind arith
  clashes_at r d (e ∷ es) (suc n) (suc j) before within here =
      let ih = clashes_at r d es n j (omega arith) (omega arith) here in grind arith

  module _ (rules : List (Rule G)) where
    -- one more earlier rule that does not clash
    pub still_clear : (r d : Rule G) (j : ℕ) → j < length rules → clashes m r (take j rules) ≡ false → clash m r (get_or rules j d) ≡ false → clashes m r (take (j + 1) rules) ≡ false
    still_clear r d j within before here =
        ap (clashes m r) (take_more rules j d within) ∙ clashes_push r (take j rules) (get_or rules j d) ∙ grind arith

    module _ (k : ℕ) (d : Rule G) (within : k < length rules) where
      turn : (b : Bool) → clashes m (get_or rules k d) (take k rules) ≡ b → check_overlaps_lem m k (take k rules) (drop k rules) ≡ next (unless (not b) (Overlap k)) (check_overlaps_lem m (k + 1) (take (k + 1) rules) (drop (k + 1) rules))
      turn b e =
          at_drop_more (check_overlaps_lem m k (take k rules)) rules k d within
          ∙ ap (λ c. next (unless (not c) (Overlap k)) (check_overlaps_lem m (k + 1) (take k rules ++ get_or rules k d ∷ []) (drop (k + 1) rules))) e
          ∙ ap (λ es. next (unless (not b) (Overlap k)) (check_overlaps_lem m (k + 1) es (drop (k + 1) rules))) (sym (take_more rules k d within))

      -- rule k clashes with no earlier one
      pub overlaps_go_on : clashes m (get_or rules k d) (take k rules) ≡ false → check_overlaps_lem m k (take k rules) (drop k rules) ≡ check_overlaps_lem m (k + 1) (take (k + 1) rules) (drop (k + 1) rules)
      overlaps_go_on e = turn false e

      -- rule k clashes with rule j
      pub overlaps_stop : (j : ℕ) → j < k → clash m (get_or rules k d) (get_or rules j d) ≡ true → check_overlaps_lem m k (take k rules) (drop k rules) ≡ Err (Overlap k)
      overlaps_stop j before here = turn true (clashes_at (get_or rules k d) d rules k j before within here)
