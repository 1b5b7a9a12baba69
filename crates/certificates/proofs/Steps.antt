-- One symbol at a point: where both machines stop, or go on to a point that passes.
use Rattle.std.proofs.Common.{◌≡◌, ℕ, Bool, true, List, [], ◌∷◌, ◌++◌, Some, None, Option, sym, refl, ap, ◌∙◌, append_assoc, arith}
use native.Mathlib.Decide.{dec_lt}
use Rattle.machine.specs.Machine.{Machine, and_then, run, prefixed, transduced_from}
use Rattle.machine.specs.Lag.{lag}
use Rattle.machine.proofs.Runs.{transduced_step, prefixed_nothing}
use Rattle.machine.proofs.Lags.{lag_from}
use Rattle.alphabet.specs.Questions.{every}
use Rattle.alphabet.proofs.Bounded.{decides_every}
use Rattle.certificates.specs.Points.{Point, together, goes_on, ends_same}
use Rattle.certificates.specs.Theorems.{Within}
use Rattle.certificates.proofs.Same.{same_output_lem}

-- what is written on the way stands before what is written then
prefixed_twice : (x y : List ℕ) (o : Option (List ℕ)) → prefixed x (prefixed y o) ≡ prefixed (x ++ y) o
prefixed_twice x y None = refl
prefixed_twice x y (Some w) = ap Some (sym (append_assoc x y w))

-- outputs that agree behind the lag agree
lag_joins : (x y : List ℕ) (o p : Option (List ℕ)) → prefixed (lag x y).0 o ≡ prefixed (lag x y).1 p → prefixed x o ≡ prefixed y p
lag_joins x y None None e = refl
lag_joins x y None (Some w) e = grind arith
lag_joins x y (Some v) None e = grind arith
lag_joins x y (Some v) (Some w) e = let f : (lag x y).0 ++ v ≡ (lag x y).1 ++ w = cc in ap Some (lag_from x y v w f)

module _ (a b : Machine) where
  -- from the point on, the machines do the same to the text
  abbrev pub SameFrom : Point → List ℕ → Type 0
  SameFrom x u = prefixed x.lag.0 (transduced_from a u x.left) ≡ prefixed x.lag.1 (transduced_from b u x.right)

  -- the text is at its end
  pub same_end : (x : Point) → ends_same a b x ≡ true → SameFrom x []
  unfolding ends_same run
  same_end x e =
      rw (prefixed_nothing (a.final x.left), prefixed_nothing (b.final x.right))
      (same_output_lem (prefixed x.lag.0 (a.final x.left)) (prefixed x.lag.1 (b.final x.right)) e)

  -- the text goes on with s
  pub same_step : (test : Point → Bool) (x : Point) (s : ℕ) (u : List ℕ) → ((y : Point) → test y ≡ true → SameFrom y u)
      → goes_on a b test x s ≡ true → SameFrom x (s ∷ u)
  unfolding goes_on
  same_step test x s u later e =
      ap (prefixed x.lag.0) (transduced_step a s u x.left)
      ∙ go (a.step x.left s) (b.step x.right s) e
      ∙ sym (ap (prefixed x.lag.1) (transduced_step b s u x.right))
    where
      go : (l r : Option (ℕ × List ℕ)) → together test x l r ≡ true
          → prefixed x.lag.0 (and_then l (λ n. prefixed n.1 (transduced_from a u n.0)))
          ≡ prefixed x.lag.1 (and_then r (λ n. prefixed n.1 (transduced_from b u n.0)))
      go None None e = refl
      go None (Some r) e = grind arith
      go (Some l) None e = grind arith
      go (Some l) (Some r) e =
          prefixed_twice x.lag.0 l.1 (transduced_from a u l.0)
          ∙ lag_joins (x.lag.0 ++ l.1) (x.lag.1 ++ r.1) (transduced_from a u l.0) (transduced_from b u r.0)
          (later (record { left = l.0; right = r.0; lag = lag (x.lag.0 ++ l.1) (x.lag.1 ++ r.1) }) e)
          ∙ sym (prefixed_twice x.lag.1 r.1 (transduced_from b u r.0))

  module _ (size : ℕ) (in_a : Within size a) (in_b : Within size b) where
    -- the same with any number, where the machines go on from each symbol
    pub same_every : (test : Point → Bool) (x : Point) (s : ℕ) (u : List ℕ) → ((y : Point) → test y ≡ true → SameFrom y u)
        → every size (goes_on a b test x) ≡ true → SameFrom x (s ∷ u)
    unfolding goes_on
    same_every test x s u later e = elim (dec_lt s size) [
      | yes h ↦ same_step test x s u later ((decides_every (goes_on a b test x) size).0 e s h)
      | no h ↦ same_step test x s u later (let f = in_a x.left s (omega arith) in let g = in_b x.right s (omega arith) in rw (f, g))
    ]
