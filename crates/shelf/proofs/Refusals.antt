-- The first refusals of the calls: a shelf that cannot be read, and numbers without a holding.
use Rattle.std.proofs.Common.{◌≡◌, ℕ, ◌-◌, Bool, true, false, cond, ◌&&◌, ltb, leb, Ok, Err, refl, arith}
use Rattle.std.proofs.lemmas.Bool.Decides.{nat_tests}
use Rattle.answers.specs.declared.fault.Fault.{Fault}
use Rattle.answers.specs.declared.fault.Fault.TheVariants.{NoHolding}
use Rattle.holdings.specs.Memory.{Memory, place_of}
use Rattle.shelf_law.specs.Holdings.{Has}

module _ {G T : Type 0} (M : Memory G T) (n : ℕ) where
  -- a number with a place has a holding
  pub placed_has : (i : ℕ) → place_of M n ≡ Ok i → Has M n × (n - 1 ≡ i)
  placed_has i e = go (ltb 0 n && leb n M.head.holdings) refl e
    where
      go : (b : Bool) → (ltb 0 n && leb n M.head.holdings) ≡ b → cond b (Ok (n - 1)) (Err (NoHolding n)) ≡ Ok i → Has M n × (n - 1 ≡ i)
      go true t e = ((grind (arith, nat_tests), grind (arith, nat_tests)), cc)
      go false t e = absurd (grind arith)

  -- one without has none, and the fault says so
  pub placeless_none : (f : Fault) → place_of M n ≡ Err f → (Has M n → ⊥) × (f ≡ NoHolding n)
  placeless_none f e = go (ltb 0 n && leb n M.head.holdings) refl e
    where
      go : (b : Bool) → (ltb 0 n && leb n M.head.holdings) ≡ b → cond b (Ok (n - 1)) (Err (NoHolding n)) ≡ Err f → (Has M n → ⊥) × (f ≡ NoHolding n)
      go true t e = absurd (grind arith)
      go false t e = (λ h. absurd (grind (arith, nat_tests)), cc)
