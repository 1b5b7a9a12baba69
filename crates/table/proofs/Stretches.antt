-- What holds of all entries that a list's counts ask for, and of each item's own.
use Rattle.std.proofs.Common.{◌≡◌, ℕ, zero, suc, ◌+◌, List, [], ◌∷◌, take, drop, sum_by, sym, subst, arith}
use Rattle.std.specs.List.{AllByRecursion}
use Rattle.std.proofs.ByRecursion.{All-append, All-take, All-drop}
use Rattle.std.proofs.lemmas.List.{take-append-drop, take-take, drop-take}
use Rattle.std.proofs.lemmas.List.Sums.{sum_by-cons}
use Rattle.table.specs.Table.{stretch}

module _ {X T : Type 0} (count : X → ℕ) where
  -- the entries of all items, the first of which is x: its own, and those of the others
  module _ (x : X) (xs : List X) (ts : List T) where
    own : take (count x) (take (sum_by count (x ∷ xs)) ts) ≡ take (count x) ts
    own = rw sum_by-cons (take-take (count x) (count x + sum_by count xs) ts (omega arith))

    others : drop (count x) (take (sum_by count (x ∷ xs)) ts) ≡ take (sum_by count xs) (drop (count x) ts)
    others = rw sum_by-cons (drop-take (count x) (sum_by count xs) ts)

  module _ (P : T → Type 0) where
    pub all_stretch : (xs : List X) (ts : List T) → AllByRecursion P (take (sum_by count xs) ts) → (i : ℕ) → AllByRecursion P (stretch count xs i ts)
    all_stretch [] ts all i = tt
    all_stretch (x ∷ xs) ts all zero = subst (AllByRecursion P) (own x xs ts) (All-take P (count x) _ all)
    all_stretch (x ∷ xs) ts all (suc i) = all_stretch xs (drop (count x) ts) (subst (AllByRecursion P) (others x xs ts) (All-drop P (count x) _ all)) i

    pub all_from_stretches : (xs : List X) (ts : List T) → ((i : ℕ) → AllByRecursion P (stretch count xs i ts)) → AllByRecursion P (take (sum_by count xs) ts)
    all_from_stretches [] ts all = tt
    all_from_stretches (x ∷ xs) ts all =
        let later = all_from_stretches xs (drop (count x) ts) (λ i. all (suc i)) in
        subst (AllByRecursion P) (take-append-drop (count x) (take (sum_by count (x ∷ xs)) ts))
        (All-append P _ _ (subst (AllByRecursion P) (sym (own x xs ts)) (all 0)) (subst (AllByRecursion P) (sym (others x xs ts)) later))
