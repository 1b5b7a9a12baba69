-- Stripping a common front from two outputs, symbol by symbol.
use Rattle.std.proofs.Common.{◌≡◌, ℕ, suc, ◌+◌, Bool, true, false, eqb, List, [], ◌∷◌, drop, refl, ap, ◌∙◌, arith}
use Rattle.std.specs.List.{prefix_len, zip}
use Rattle.std.proofs.lemmas.Bool.{eq-eqb, ne_eqb, eqb-true, eqb-false}
use Rattle.machine.specs.Lag.{lag}

-- nothing is left of one side
lag_none : (y : List ℕ) → lag [] y ≡ ([], y)
unfolding lag
lag_none y = refl

lag_nothing : (x : List ℕ) → lag x [] ≡ (x, [])
unfolding lag
lag_nothing [] = refl
lag_nothing (a ∷ x) = refl

-- equal first symbols are stripped, and others are not
lag_equal : (a b : ℕ) (x y : List ℕ) → a ≡ b → lag (a ∷ x) (b ∷ y) ≡ lag x y
unfolding lag
lag_equal a b x y e = rw (eq-eqb a b e)

lag_unequal : (a b : ℕ) (x y : List ℕ) → (a ≡ b → ⊥) → lag (a ∷ x) (b ∷ y) ≡ (a ∷ x, b ∷ y)
unfolding lag
lag_unequal a b x y e = rw (ne_eqb a b e)

-- how long the longest common front is
abbrev pub front : List ℕ → List ℕ → ℕ
front x y = prefix_len (λ (t : ℕ × ℕ). eqb t.0 t.1) (zip x y)

-- what is behind it is the lag
pub front_rest : (x y : List ℕ) → lag x y ≡ (drop (front x y) x, drop (front x y) y)
front_rest [] y = lag_none y
front_rest (a ∷ x) [] = lag_nothing (a ∷ x)
front_rest (a ∷ x) (b ∷ y) = go (eqb a b) refl (front_rest x y)
  where
    go : (t : Bool) → eqb a b ≡ t → lag x y ≡ (drop (front x y) x, drop (front x y) y) → lag (a ∷ x) (b ∷ y) ≡ (drop (front (a ∷ x) (b ∷ y)) (a ∷ x), drop (front (a ∷ x) (b ∷ y)) (b ∷ y))
    go true e ih =
        let more : suc (front x y) ≡ 1 + front x y = omega arith in
        rw e (lag_equal a b x y (eqb-true a b e) ∙ ih ∙ ap (λ k. (drop k (a ∷ x), drop k (b ∷ y))) more)
    go false e ih = rw e (lag_unequal a b x y (eqb-false a b e))

-- the lag of the same outputs
pub lag_same : (x y p q : List ℕ) → x ≡ p → y ≡ q → lag x y ≡ lag p q
lag_same x y p q e f = ap (λ t. lag t y) e ∙ ap (lag p) f
