-- Machines with a certificate are equivalent.
use Rattle.std.proofs.Common.{◌≡◌, ℕ, Bool, true, ◌⊎◌, List, [], ◌∷◌, None, sym, ◌∙◌, subst, inl, inr, arith}
use Rattle.std.proofs.lemmas.Bool.{and_parts, or_cases}
use Rattle.machine.specs.Machine.{Machine, transduced}
use Rattle.machine.specs.Compared.{Told}
use Rattle.machine.proofs.Runs.{prefixed_nothing}
use Rattle.alphabet.specs.Questions.{every}
use Rattle.certificates.specs.Points.{Point, start, same_point, goes_on, ends_same}
use Rattle.certificates.specs.Certificates.{listed, all_pass, closed_at, certified}
use Rattle.certificates.specs.Theorems.{Within}
use Rattle.certificates.proofs.Same.{same_point_lem}
use Rattle.certificates.proofs.Steps.{SameFrom, same_end, same_every}

-- a listed point passes where all do
listed_passes : (test : Point → Bool) (points : List Point) (x : Point) → all_pass test points ≡ true → listed points x ≡ true → test x ≡ true
unfolding listed all_pass
listed_passes test [] x all e = grind arith
listed_passes test (y ∷ points) x all e =
    go (or_cases (same_point y x) (listed points x) e) (listed_passes test points x (and_parts (test y) (all_pass test points) all).1)
  where
    go : (same_point y x ≡ true) ⊎ (listed points x ≡ true) → (listed points x ≡ true → test x ≡ true) → test x ≡ true
    go (inl h) ih = subst (λ (z : Point). test z ≡ true) (same_point_lem y x h) (and_parts (test y) (all_pass test points) all).0
    go (inr h) ih = ih h

module _ (a b : Machine) (size : ℕ) (in_a : Within size a) (in_b : Within size b) (points : List Point) (closed : all_pass (closed_at a b size points) points ≡ true) where
  at : (x : Point) → listed points x ≡ true → (ends_same a b x ≡ true) × (every size (goes_on a b (listed points) x) ≡ true)
  unfolding closed_at
  at x h = and_parts (ends_same a b x) (every size (goes_on a b (listed points) x)) (listed_passes (closed_at a b size points) points x closed h)

  -- from a listed point on, the machines do the same to every text
  same_listed : (u : List ℕ) (x : Point) → listed points x ≡ true → SameFrom a b x u
  same_listed [] x h = same_end a b x (at x h).0
  same_listed (s ∷ u) x h = same_every a b size in_a in_b (listed points) x s u (same_listed u) (at x h).1

pub equivalent : (a b : Machine) (size : ℕ) → Within size a → Within size b → (points : List Point) → certified a b size points ≡ true → Told a b None
unfolding certified
equivalent a b size in_a in_b points e u =
    let h = and_parts (listed points start) (all_pass (closed_at a b size points) points) e in
    sym (prefixed_nothing (transduced a u)) ∙ same_listed a b size in_a in_b points h.1 u start h.0 ∙ prefixed_nothing (transduced b u)
