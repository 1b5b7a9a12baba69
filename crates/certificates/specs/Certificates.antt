-- A certificate that two machines are equivalent: a list of points that no symbol leads out of.
use Rattle.std.specs.Prelude.{ℕ, Bool, true, false, ◌&&◌, ◌||◌, List, [], ◌∷◌}
use Rattle.machine.specs.Machine.{Machine}
use Rattle.alphabet.specs.Questions.{every}
use Rattle.certificates.specs.Points.{Point, start, same_point, goes_on, ends_same}

-- the point is in the list
unfoldable pub listed : List Point → Point → Bool
listed [] x = false
listed (y ∷ points) x = same_point y x || listed points x

-- each point of the list passes
unfoldable pub all_pass : (Point → Bool) → List Point → Bool
all_pass test [] = true
all_pass test (x ∷ points) = test x && all_pass test points

module _ (a b : Machine) (size : ℕ) where
  -- the machines end alike at the point, and each symbol leads both to a listed point, or neither on
  unfoldable pub closed_at : List Point → Point → Bool
  closed_at points x = ends_same a b x && every size (goes_on a b (listed points) x)

  -- the list has the start, and is closed at each of its points
  unfoldable pub certified : List Point → Bool
  certified points = listed points start && all_pass (closed_at points) points
