-- A check that a text is the earliest that distinguishes two machines: it looks at all earlier texts.
use Rattle.std.specs.Prelude.{ℕ, zero, suc, Bool, true, not, ◌&&◌, List, [], ◌∷◌, length}
use Rattle.machine.specs.Machine.{Machine, transduced}
use Rattle.alphabet.specs.Questions.{every}
use Rattle.certificates.specs.Same.{same_output}
use Rattle.certificates.specs.Points.{Point, start, goes_on, ends_same}

module _ (a b : Machine) (size : ℕ) where
  -- from the point on, the machines do the same to every text of n symbols
  unfoldable pub same_at : ℕ → Point → Bool
  same_at zero x = ends_same a b x
  same_at (suc n) x = every size (goes_on a b (same_at n) x)

  -- to every text of fewer than n symbols, from the start
  unfoldable pub same_below : ℕ → Bool
  same_below n = every n (λ k. same_at k start)

  -- from the point on, to every text as long as t that is smaller where they first differ
  unfoldable pub same_before : List ℕ → Point → Bool
  same_before [] x = true
  same_before (c ∷ t) x = every c (goes_on a b (same_at (length t)) x) && goes_on a b (same_before t) x c

  -- no earlier text distinguishes the machines, and t does
  unfoldable pub differs_at : List ℕ → Bool
  differs_at t = (same_below (length t) && same_before t start) && not (same_output (transduced a t) (transduced b t))
