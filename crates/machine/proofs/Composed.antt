-- A machine over the pairs of two machines' states does what the two do one after the other.
use Rattle.std.proofs.Common.{◌≡◌, ℕ, ◌<◌, List, [], ◌∷◌, length, get_or, Some, None, Option, sym, refl, ap, ◌∙◌, arith}
use Rattle.machine.specs.Machine.{Machine, and_then, prefixed, run, transduced_from, transduced}
use Rattle.machine.specs.Composed.{beside, renamed, Composes}
use Rattle.machine.proofs.Runs.{transduced_append, transduced_step, prefixed_nothing}

-- the first machine's output, handed to the second
abbrev handed : Machine → ℕ → Option (List ℕ) → Option (List ℕ)
handed b q o = and_then o (λ w. transduced_from b w q)

-- the second machine over what the first writes at one symbol and after it
handed_prefixed : (b : Machine) (q : ℕ) (v : List ℕ) (o : Option (List ℕ))
    → handed b q (prefixed v o) ≡ and_then (run b v q) (λ r. prefixed r.1 (handed b r.0 o))
handed_prefixed b q v None = go (run b v q)
  where
    -- rejected by the first machine, it is rejected
    go : (o : Option (ℕ × List ℕ)) → None ≡ and_then o (λ r. prefixed r.1 (handed b r.0 None))
    go None = refl
    go (Some r) = refl
handed_prefixed b q v (Some y) = transduced_append b v y q

-- one symbol: where the moves agree, and what is written from there on, so does what is written from here on
composes_one : (P : List (ℕ × ℕ)) (b : Machine) (q : ℕ) (A C : ℕ → Option (List ℕ)) (o o' : Option (ℕ × List ℕ))
    → renamed P o ≡ and_then o' (λ r. beside r.0 (run b r.1 q))
    → ((j : ℕ) (w : List ℕ) → o ≡ Some (j, w) → C j ≡ handed b (get_or P j (0, 0)).1 (A (get_or P j (0, 0)).0))
    → and_then o (λ r. prefixed r.1 (C r.0)) ≡ handed b q (and_then o' (λ r. prefixed r.1 (A r.0)))
composes_one P b q A C None None e on = refl
composes_one P b q A C (Some r) None e on = grind arith
composes_one P b q A C None (Some (p, v)) e on = let t = handed_prefixed b q v (A p) in grind arith
composes_one P b q A C (Some (j, w)) (Some (p, v)) e on =
    let t = handed_prefixed b q v (A p) in let k = on j w refl in grind arith

module _ (a b c : Machine) (P : List (ℕ × ℕ)) (K : Composes a b c P) where
  -- from every pair on
  composes_from : (u : List ℕ) (i : ℕ) → i < length P
      → transduced_from c u i ≡ handed b (get_or P i (0, 0)).1 (transduced_from a u (get_or P i (0, 0)).0)
  unfolding run
  composes_from [] i h = simp prefixed_nothing (K.final i h)
  composes_from (s ∷ u) i h =
      let p = (get_or P i (0, 0)).0 in
      let q = (get_or P i (0, 0)).1 in
      transduced_step c s u i
      ∙ composes_one P b q (λ p'. transduced_from a u p') (λ j. transduced_from c u j) (c.step i s) (a.step p s) (K.step i h s)
      (λ j w e. composes_from u j (K.stays i h s j w e))
      ∙ ap (λ o. handed b q o) (sym (transduced_step a s u p))

  -- the whole machine
  pub composes_transduced : (u : List ℕ) → transduced c u ≡ and_then (transduced a u) (λ w. transduced b w)
  composes_transduced u = rw K.start at (composes_from u 0 K.some)
