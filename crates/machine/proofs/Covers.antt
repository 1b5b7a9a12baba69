-- When a text is covered: by nothing left to write, or by earlier texts that lead to the same states.
use Rattle.std.proofs.Common.{◌≡◌, ℕ, ◌⊎◌, List, ◌++◌, Some, None, Option, sym, refl, ◌∙◌, inl, inr, arith}
use Rattle.machine.specs.Machine.{Machine, run, prefixed, transduced_from, transduced, Distinguishes}
use Rattle.machine.specs.Shortlex.{Earlier}
use Rattle.machine.specs.Sides.{output_of, Arrives}
use Rattle.machine.specs.Lag.{lag_of}
use Rattle.machine.specs.Covered.{Covered}
use Rattle.machine.proofs.Runs.{run_reached, transduced_live, transduced_dead, outputs_decided, rejected_alike}
use Rattle.machine.proofs.Lags.{lag_same, lag_only}
use Rattle.machine.proofs.Orders.{earlier_append}

-- both are alive after the text: they reach the states p and q, and have written x and y
pub record Live (a b : Machine) (u : List ℕ) (p q : ℕ) (x y : List ℕ) : Type 0 where
  pub left : run a u 0 ≡ Some (p, x)
  pub right : run b u 0 ≡ Some (q, y)

-- a text with both sides alive, by its states
pub live_from : (a b : Machine) (u : List ℕ) (p q : ℕ) → Arrives a b u (Some p) (Some q)
    → Live a b u p q (output_of (run a u 0)) (output_of (run b u 0))
live_from a b u p q h = record { left = run_reached (run a u 0) p h.0; right = run_reached (run b u 0) q h.1 }

-- outputs that agree before two endings agree before a third, if words do
prefixed_forced : (x z x₁ z₁ x₂ z₂ : List ℕ)
    → ((v w : List ℕ) → x₁ ++ v ≡ z₁ ++ w → x₂ ++ v ≡ z₂ ++ w → x ++ v ≡ z ++ w) → (o o' : Option (List ℕ))
    → prefixed x₁ o ≡ prefixed z₁ o' → prefixed x₂ o ≡ prefixed z₂ o' → prefixed x o ≡ prefixed z o'
prefixed_forced x z x₁ z₁ x₂ z₂ words None None e f = refl
prefixed_forced x z x₁ z₁ x₂ z₂ words None (Some w) e f = grind arith
prefixed_forced x z x₁ z₁ x₂ z₂ words (Some v) None e f = grind arith
prefixed_forced x z x₁ z₁ x₂ z₂ words (Some v) (Some w) e f = let k = words v w in grind arith

-- two texts with the states of t: where both completed alike make t completed alike, t distinguishes only if one of them does
pub distinguished_forced : (a b : Machine) {t y₁ y₂ : List ℕ} {p q : ℕ} {x z x₁ z₁ x₂ z₂ : List ℕ}
    → Live a b t p q x z → Live a b y₁ p q x₁ z₁ → Live a b y₂ p q x₂ z₂
    → ((v w : List ℕ) → x₁ ++ v ≡ z₁ ++ w → x₂ ++ v ≡ z₂ ++ w → x ++ v ≡ z ++ w)
    → (v : List ℕ) → Distinguishes a b (t ++ v) → Distinguishes a b (y₁ ++ v) ⊎ Distinguishes a b (y₂ ++ v)
distinguished_forced a b {t} {y₁} {y₂} {p} {q} {x} {z} {x₁} {z₁} {x₂} {z₂} l l₁ l₂ words v d =
    go (outputs_decided (transduced a (y₁ ++ v)) (transduced b (y₁ ++ v)))
  where
    -- y₁ distinguishes, or else y₂ has to
    go : Dec (transduced a (y₁ ++ v) ≡ transduced b (y₁ ++ v)) → Distinguishes a b (y₁ ++ v) ⊎ Distinguishes a b (y₂ ++ v)
    go (no n) = inl n
    go (yes e) = inr (λ f.
        d (transduced_live a t v p x l.left
        ∙ prefixed_forced x z x₁ z₁ x₂ z₂ words (transduced_from a v p) (transduced_from b v q)
        (sym (transduced_live a y₁ v p x₁ l₁.left) ∙ e ∙ transduced_live b y₁ v q z₁ l₁.right)
        (sym (transduced_live a y₂ v p x₂ l₂.left) ∙ f ∙ transduced_live b y₂ v q z₂ l₂.right)
        ∙ sym (transduced_live b t v q z l.right)))

-- a text is covered by two earlier ones, one of which distinguishes wherever it does
pub covered_by : (a b : Machine) (t y₁ y₂ : List ℕ) → Earlier y₁ t → Earlier y₂ t
    → ((v : List ℕ) → Distinguishes a b (t ++ v) → Distinguishes a b (y₁ ++ v) ⊎ Distinguishes a b (y₂ ++ v)) → Covered a b t
covered_by a b t y₁ y₂ h₁ h₂ either v d = go (either v d)
  where
    -- the one that distinguishes, with what follows
    go : Distinguishes a b (y₁ ++ v) ⊎ Distinguishes a b (y₂ ++ v) → (y : List ℕ) × Earlier y (t ++ v) × Distinguishes a b y
    go (inl k) = (y₁ ++ v, earlier_append y₁ t v v refl h₁, k)
    go (inr k) = (y₂ ++ v, earlier_append y₂ t v v refl h₂, k)

-- both sides are dead
pub covered_dead : (a b : Machine) (t : List ℕ) → Arrives a b t None None → Covered a b t
covered_dead a b t h v d = absurd (d (transduced_dead a t v h.0 ∙ sym (transduced_dead b t v h.1)))

-- a side is dead, and an earlier text leads to the same pair
pub covered_half : (a b : Machine) (t y : List ℕ) (l r : Option ℕ) → (l ≡ None) ⊎ (r ≡ None)
    → Arrives a b t l r → Arrives a b y l r → Earlier y t → Covered a b t
covered_half a b t y l r dead h k e = covered_by a b t y y e e (λ v d. inl (λ f. d (alike v f dead)))
  where
    -- what both do to y they do to t: the dead side rejects both, and the other rejects both or neither
    alike : (v : List ℕ) → transduced a (y ++ v) ≡ transduced b (y ++ v) → (l ≡ None) ⊎ (r ≡ None)
        → transduced a (t ++ v) ≡ transduced b (t ++ v)
    alike v f (inl n) =
        let g = transduced_dead a y v (k.0 ∙ n) in
        let j = rejected_alike b t y v (h.1 ∙ sym k.1) (sym f ∙ g) in
        transduced_dead a t v (h.0 ∙ n) ∙ sym j
    alike v f (inr n) =
        let g = transduced_dead b y v (k.1 ∙ n) in
        let j = rejected_alike a t y v (h.0 ∙ sym k.0) (f ∙ g) in
        j ∙ sym (transduced_dead b t v (h.1 ∙ n))

-- an earlier text leads to the same living pair with the same lag
pub covered_same : (a b : Machine) (t y : List ℕ) (p q : ℕ) → Arrives a b t (Some p) (Some q) → Arrives a b y (Some p) (Some q)
    → lag_of a b t ≡ lag_of a b y → Earlier y t → Covered a b t
covered_same a b t y p q h k same e =
    let l = live_from a b t p q h in
    let j = live_from a b y p q k in
    covered_by a b t y y e e (distinguished_forced a b l j j (λ v w f g. lag_same _ _ _ _ (sym same) v w f))

-- two earlier texts lead to the same living pair with different lags
pub covered_two : (a b : Machine) (t y₁ y₂ : List ℕ) (p q : ℕ)
    → Arrives a b t (Some p) (Some q) → Arrives a b y₁ (Some p) (Some q) → Arrives a b y₂ (Some p) (Some q)
    → (lag_of a b y₁ ≡ lag_of a b y₂ → ⊥) → Earlier y₁ t → Earlier y₂ t → Covered a b t
covered_two a b t y₁ y₂ p q h k₁ k₂ differ e₁ e₂ =
    let l = live_from a b t p q h in
    let j₁ = live_from a b y₁ p q k₁ in
    let j₂ = live_from a b y₂ p q k₂ in
    covered_by a b t y₁ y₂ e₁ e₂
    (distinguished_forced a b l j₁ j₂ (λ v w f g. absurd (differ (lag_only _ _ _ _ v w f g))))
