-- Where two machines stand after a text that both have read.
use Rattle.std.specs.Prelude.{ℕ, Bool, true, false, ◌&&◌, List, [], ◌++◌, Some, None, Option, ◌==◌}
use Rattle.machine.specs.Machine.{Machine, prefixed}
use Rattle.machine.specs.Lag.{lag}
use Rattle.certificates.specs.Same.{same_text, same_output}

-- the two states, and what each machine has written beyond what both have
pub record Point : Type 0 where
  pub left : ℕ
  pub right : ℕ
  pub lag : List ℕ × List ℕ

-- before any symbol
abbrev pub start : Point
start = record { left = 0; right = 0; lag = ([], []) }

-- the points are equal
unfoldable pub same_point : Point → Point → Bool
same_point x y =
    (x.left == y.left && x.right == y.right) && (same_text x.lag.0 y.lag.0 && same_text x.lag.1 y.lag.1)

-- both machines stop, or both go on to a point that passes
abbrev pub together : (Point → Bool) → Point → Option (ℕ × List ℕ) → Option (ℕ × List ℕ) → Bool
together test x None None = true
together test x None (Some r) = false
together test x (Some l) None = false
together test x (Some l) (Some r) = test (record { left = l.0; right = r.0; lag = lag (x.lag.0 ++ l.1) (x.lag.1 ++ r.1) })

module _ (a b : Machine) where
  -- so on the symbol s
  unfoldable pub goes_on : (Point → Bool) → Point → ℕ → Bool
  goes_on test x s = together test x (a.step x.left s) (b.step x.right s)

  -- at the end of the text both write the same in all, or both reject
  unfoldable pub ends_same : Point → Bool
  ends_same x = same_output (prefixed x.lag.0 (a.final x.left)) (prefixed x.lag.1 (b.final x.right))
