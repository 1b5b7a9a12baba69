-- A run over a text in two parts, and that equality of outputs is decidable.
use Rattle.std.proofs.Common.{◌≡◌, ℕ, List, [], ◌∷◌, ◌++◌, Some, None, Option, refl, ap, append_assoc, append-nil, arith}
use mathlib.Core.List.{List-discrete}
use native.Mathlib.Decide.{ℕ_discrete}
use Rattle.machine.specs.Machine.{Machine, and_then, prefixed, moved, run, transduced_from, transduced}
use Rattle.machine.specs.Sides.{state_of, output_of, onward}

-- a run over two texts is one over the first, and then over the second
pub run_append : (m : Machine) (u v : List ℕ) (q : ℕ)
    → run m (u ++ v) q ≡ and_then (run m u q) (λ r. moved r.1 (run m v r.0))
unfolding run
run_append m [] v q = go (run m v q)
  where
    -- nothing written before changes nothing
    go : (o : Option (ℕ × List ℕ)) → o ≡ moved [] o
    go None = refl
    go (Some r) = refl
run_append m (s ∷ u) v q = let ih = run_append m u v in grind (arith, append_assoc)

-- one symbol more, where the first part and the symbol are known
pub run_push : (m : Machine) (u : List ℕ) (s q p r : ℕ) (x w : List ℕ)
    → run m u q ≡ Some (p, x) → m.step p s ≡ Some (r, w) → run m (u ++ (s ∷ [])) q ≡ Some (r, x ++ w)
unfolding run
run_push m u s q p r x w e f = rw (run_append, e, f, append-nil)

-- the state after one symbol more
pub state_push : (m : Machine) (u : List ℕ) (s q : ℕ)
    → state_of (run m (u ++ (s ∷ [])) q) ≡ onward m (state_of (run m u q)) s
unfolding run
state_push m u s q = let e = run_append m u (s ∷ []) q in grind arith

-- what is written for a text in two parts: on the way over the first, and from there on
pub transduced_append : (m : Machine) (u v : List ℕ) (q : ℕ)
    → transduced_from m (u ++ v) q ≡ and_then (run m u q) (λ r. prefixed r.1 (transduced_from m v r.0))
transduced_append m u v q = let f = run_append m u v q in grind (arith, append_assoc)

-- what is written for a text by its first symbol
pub transduced_step : (m : Machine) (s : ℕ) (u : List ℕ) (q : ℕ)
    → transduced_from m (s ∷ u) q ≡ and_then (m.step q s) (λ r. prefixed r.1 (transduced_from m u r.0))
unfolding run
transduced_step m s u q = grind (arith, append_assoc)

-- the run over the first part is known
pub transduced_live : (m : Machine) (u v : List ℕ) (p : ℕ) (x : List ℕ)
    → run m u 0 ≡ Some (p, x) → transduced m (u ++ v) ≡ prefixed x (transduced_from m v p)
transduced_live m u v p x e = rw (transduced_append, e)

-- the run stops in the first part
pub transduced_dead : (m : Machine) (u v : List ℕ) → state_of (run m u 0) ≡ None → transduced m (u ++ v) ≡ None
transduced_dead m u v e = let f = transduced_append m u v 0 in grind arith

-- nothing written before changes nothing
pub prefixed_nothing : (o : Option (List ℕ)) → prefixed [] o ≡ o
prefixed_nothing None = refl
prefixed_nothing (Some y) = refl

-- a run that reached a state wrote something
pub run_reached : (o : Option (ℕ × List ℕ)) (p : ℕ) → state_of o ≡ Some p → o ≡ Some (p, output_of o)
run_reached None p e = grind arith
run_reached (Some r) p e = grind arith

-- equality of outputs is decidable
pub outputs_decided : (o o' : Option (List ℕ)) → Dec (o ≡ o')
outputs_decided None None = yes refl
outputs_decided None (Some y) = no (λ e. grind arith)
outputs_decided (Some x) None = no (λ e. grind arith)
outputs_decided (Some x) (Some y) = go (List-discrete ℕ_discrete x y)
  where
    -- by the words
    go : Dec (x ≡ y) → Dec (◌≡◌ {A = Option (List ℕ)} (Some x) (Some y))
    go (yes e) = yes (ap Some e)
    go (no n) = no (λ e. n (cc))

-- whether a machine rejects what a text goes on with depends on the state alone
pub rejected_alike : (m : Machine) (t y v : List ℕ)
    → state_of (run m t 0) ≡ state_of (run m y 0) → transduced m (y ++ v) ≡ None → transduced m (t ++ v) ≡ None
rejected_alike m t y v e h = let f = transduced_append m t v 0 in let g = transduced_append m y v 0 in grind arith
