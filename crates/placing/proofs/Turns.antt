-- Loops over the holdings of a shelf that look for the lowest of a kind.
use Rattle.std.proofs.Common.{◌≡◌, ℕ, ◌+◌, ◌<◌, ◌≤◌, Bool, true, false, Decides, sym, refl, subst, arith, below_more}
use Rattle.table.specs.Table.{Table}
use Rattle.holdings.specs.Memory.{Memory, holding}
use Rattle.shelf_law.specs.Holdings.{NoHolding, Lowest}

module _ {G T : Type 0} (M : Memory G T) (P : Table G T → Type 0) (i : ℕ) (below : (j : ℕ) → j < i → P (holding M j) → ⊥) where
  -- a view of the holding at i is of the kind, so it is the lowest; or it is not, so none is up to there
  module _ (V : Table G T) (is : V ≡ holding M i) (b : Bool) (told : Decides b (P V)) where
    pub lowest_here : i < M.head.holdings → b ≡ true → Lowest M P (i + 1)
    lowest_here within yes-it-is = record { place = i; number = refl; within = within; here = subst P is (told.0 yes-it-is); none_below = below }

    pub none_more : b ≡ false → (j : ℕ) → j < i + 1 → P (holding M j) → ⊥
    none_more it-is-not = below_more (λ j. P (holding M j) → ⊥) i below (λ p. let t = told.1 (subst P (sym is) p) in absurd (grind (arith, t, it-is-not)))

  -- past the last holding, none is of the kind
  pub none_all : M.head.holdings ≤ i → NoHolding M P
  none_all past j within = below j (omega arith)
