-- Symbols that need not be tried at a pair of sides: they lead nowhere, or smaller symbols do for them.
use Rattle.std.proofs.Common.{◌≡◌, ℕ, ◌<◌, ◌⊎◌, List, [], ◌∷◌, ◌++◌, Some, None, Option, ap, ◌∙◌, append_assoc, arith}
use Rattle.std.specs.List.{AllByRecursion}
use Rattle.machine.specs.Machine.{Machine, run}
use Rattle.machine.specs.Sides.{output_of, onward, Arrives}
use Rattle.machine.specs.Covered.{Idle}
use Rattle.machine.specs.Terms.{TermLaws, Uses}
use Rattle.machine.proofs.Runs.{run_push, state_push}
use Rattle.machine.proofs.Orders.{earlier_symbol}
use Rattle.machine.proofs.Covers.{Live, live_from, distinguished_forced, covered_by, covered_dead, covered_half}
use Rattle.machine.proofs.Words.{outputs_twice}

-- where the machines stand after one symbol more
pub arrives_push : (a b : Machine) (u : List ℕ) (l r : Option ℕ) (s : ℕ)
    → Arrives a b u l r → Arrives a b (u ++ (s ∷ [])) (onward a l s) (onward b r s)
arrives_push a b u l r s h = (state_push a u s 0 ∙ ap (λ o. onward a o s) h.0, state_push b u s 0 ∙ ap (λ o. onward b o s) h.1)

-- the symbol leaves both sides dead
pub idle_dead : (a b : Machine) (l r : Option ℕ) (s : ℕ) → onward a l s ≡ None → onward b r s ≡ None → Idle a b l r s
idle_dead a b l r s e f u h =
    let k = arrives_push a b u l r s h in covered_dead a b (u ++ (s ∷ [])) (k.0 ∙ e, k.1 ∙ f)

-- the symbol leaves a side dead, and a smaller one leads to the same pair
pub idle_half : (a b : Machine) (l r : Option ℕ) (c s : ℕ) → c < s → onward a l c ≡ onward a l s → onward b r c ≡ onward b r s
    → (onward a l s ≡ None) ⊎ (onward b r s ≡ None) → Idle a b l r s
idle_half a b l r c s less e f dead u h =
    let k = arrives_push a b u l r c h in
    covered_half a b (u ++ (s ∷ [])) (u ++ (c ∷ [])) (onward a l s) (onward b r s) dead
    (arrives_push a b u l r s h) (k.0 ∙ e, k.1 ∙ f) (earlier_symbol u c s less)

-- the symbol takes the same moves as two smaller ones, and writes the values of the same terms
pub idle_class : {T : Type 0} {size : ℕ} {Good : T → Type 0} {value : T → ℕ → Option ℕ} {constant : ℕ → T}
    → TermLaws size Good value constant → (a b : Machine) {p q p' q' : ℕ} {L M : List T} → AllByRecursion Good L → AllByRecursion Good M
    → (e f s : ℕ) → e < f → f < s
    → Uses value a p e p' L → Uses value b q e q' M → Uses value a p f p' L → Uses value b q f q' M
    → Uses value a p s p' L → Uses value b q s q' M → Idle a b (Some p) (Some q) s
idle_class {value = value} law a b {p} {q} {p'} {q'} {L} {M} g g' e f s less more h h' i i' j j' u at =
    covered_by a b (u ++ (s ∷ [])) (u ++ (e ∷ [])) (u ++ (f ∷ [])) (earlier_symbol u e s (omega arith)) (earlier_symbol u f s more)
    (distinguished_forced a b (pushed s j j') (pushed e h h') (pushed f i i') words)
  where
    -- what the first machine has written before the symbol
    x : List ℕ
    x = output_of (run a u 0)

    -- and the second
    y : List ℕ
    y = output_of (run b u 0)

    -- both are alive before the symbol
    l : Live a b u p q x y
    l = live_from a b u p q at

    -- and after each of the three
    pushed : (c : ℕ) (m : Uses value a p c p' L) (n : Uses value b q c q' M)
        → Live a b (u ++ (c ∷ [])) p' q' (x ++ m.word) (y ++ n.word)
    pushed c m n = record {
      left = run_push a u c 0 p p' x m.word l.left m.goes;
      right = run_push b u c 0 q q' y n.word l.right n.goes;
    }

    -- equal at the two smaller symbols, the outputs are equal at this one
    words : (v w : List ℕ) → (x ++ h.word) ++ v ≡ (y ++ h'.word) ++ w → (x ++ i.word) ++ v ≡ (y ++ i'.word) ++ w
        → (x ++ j.word) ++ v ≡ (y ++ j'.word) ++ w
    words v w k₁ k₂ =
        simp append_assoc
        (outputs_twice law e f s (omega arith) L M g g' x y h.word h'.word i.word i'.word j.word j'.word
        h.writes h'.writes i.writes i'.writes j.writes j'.writes v w
        (simp append_assoc at k₁) (simp append_assoc at k₂))
