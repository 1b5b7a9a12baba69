-- A search that leaves out covered texts misses none that distinguishes.
use Rattle.std.proofs.Common.{◌≡◌, ℕ, ◌<◌, ◌≤◌, ◌⊎◌, List, [], ◌∷◌, ◌++◌, length, get_or, sym, refl, ap, ◌∙◌, inl, inr, append_assoc, append-nil, arith}
use mathlib.Core.HLevel.{dec→stable}
use native.Mathlib.Decide.{dec_lt}
use Rattle.machine.specs.Machine.{Machine, transduced, Distinguishes}
use Rattle.machine.specs.Shortlex.{Earlier}
use Rattle.machine.specs.Covered.{Covered}
use Rattle.machine.specs.Explored.{In, Explored}
use Rattle.machine.proofs.Runs.{outputs_decided}
use Rattle.machine.proofs.Orders.{earlier_trans, not_before_front, earlier_induct}

module _ (a b : Machine) (V : List (List ℕ)) (k : ℕ) (E : Explored a b V k) where
  -- a front of a text that is earlier than the open ones is not open
  not_open : (u : List ℕ) → ((i : ℕ) → k ≤ i → i < length V → Earlier u (get_or V i []))
      → (i : ℕ) → i < length V → (w : List ℕ) → u ≡ get_or V i [] ++ w → i < k
  not_open u before i h w e =
      elim (dec_lt i k) [
        | yes l ↦ l
        | no n ↦ absurd (not_before_front (get_or V i []) w (rw e at (before i (omega arith) h)))
      ]

  -- along the fronts of a text: the text is reached, or covered on the way
  walk : (u : List ℕ) → ((i : ℕ) → k ≤ i → i < length V → Earlier u (get_or V i []))
      → ((y : List ℕ) → Earlier y u → transduced a y ≡ transduced b y)
      → (w x : List ℕ) → u ≡ x ++ w → In V x → transduced a u ≡ transduced b u
  walk u before ih [] x e (i, h, f) =
      let same : u ≡ get_or V i [] = e ∙ append-nil x ∙ sym f in
      rw same (E.same i (not_open u before i h [] (same ∙ sym (append-nil (get_or V i [])))))
  walk u before ih (r ∷ w) x e (i, h, f) =
      go (E.next i (not_open u before i h (r ∷ w) (e ∙ ap (λ z. z ++ (r ∷ w)) (sym f))) r) (walk u before ih w (x ++ (r ∷ [])) split)
    where
      -- the text, one symbol further
      split : u ≡ (x ++ (r ∷ [])) ++ w
      split = e ∙ sym (append_assoc x (r ∷ []) w)

      -- nothing earlier distinguishes
      found : Distinguishes a b u → (y : List ℕ) × Earlier y u × Distinguishes a b y → ⊥
      found d (y, l, n) = n (ih y l)

      -- the longer front is in the list, or covers the text
      go : In V (get_or V i [] ++ (r ∷ [])) ⊎ Covered a b (get_or V i [] ++ (r ∷ []))
          → (In V (x ++ (r ∷ [])) → transduced a u ≡ transduced b u) → transduced a u ≡ transduced b u
      go (inl there) on = on (rw f at there)
      go (inr covered) on =
          dec→stable (outputs_decided (transduced a u) (transduced b u))
          (λ d. found d (rw (← split) at ((rw f at covered) w (rw split at d))))

  -- no text distinguishes that is earlier than every open one
  pub explored_same : (u : List ℕ) → ((i : ℕ) → k ≤ i → i < length V → Earlier u (get_or V i [])) → transduced a u ≡ transduced b u
  explored_same =
      earlier_induct (λ u. ((i : ℕ) → k ≤ i → i < length V → Earlier u (get_or V i [])) → transduced a u ≡ transduced b u)
      (λ u ih before.
      walk u before (λ y l. ih y l (λ i h j. earlier_trans y u (get_or V i []) l (before i h j))) u [] refl (0, E.some, E.start))
