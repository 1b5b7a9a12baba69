-- The least number that passes a test: of two tests, and of tests that agree.
use Rattle.std.proofs.Common.{◌≡◌, ℕ, ◌<◌, ◌≤◌, min, Bool, ◌||◌, ◌⊎◌, Some, None, Option, sym, ◌∙◌, inl, inr, arith}
use native.Mathlib.Nat.{min-eq_left, min-eq_right}
use Rattle.std.proofs.lemmas.Bool.{cases_lt, or_from, or_left, or_right}
use Rattle.alphabet.specs.Questions.{LeastFrom}
use Rattle.classes.specs.Runs.{lower_of}

-- tests that agree have the same least number
pub least_same : (p q : ℕ → Bool) → ((s : ℕ) → p s ≡ q s) → (n : ℕ) (o : Option ℕ) → LeastFrom p n o → LeastFrom q n o
least_same p q same n None h = λ s from. sym (same s) ∙ h s from
least_same p q same n (Some c) h = (h.0, sym (same c) ∙ h.1, λ k from below. sym (same k) ∙ h.2 k from below)

module _ (p q : ℕ → Bool) (n : ℕ) where
  -- the least number that passes one of two tests
  pub least_either : (a b : Option ℕ) → LeastFrom p n a → LeastFrom q n b → LeastFrom (λ s. p s || q s) n (lower_of a b)
  least_either None None h k = λ s from. or_from (p s) (q s) (h s from) (k s from)
  least_either None (Some y) h k = (k.0, or_right (p y) (q y) k.1, λ s from below. or_from (p s) (q s) (h s from) (k.2 s from below))
  least_either (Some x) None h k = (h.0, or_left (p x) (q x) h.1, λ s from below. or_from (p s) (q s) (h.2 s from below) (k s from))
  least_either (Some x) (Some y) h k = go (cases_lt x y)
    where
      go : (x < y) ⊎ (y ≤ x) → LeastFrom (λ s. p s || q s) n (lower_of (Some x) (Some y))
      go (inl less) =
          let e : min x y ≡ x = min-eq_left (omega arith) in
          rw e (h.0, or_left (p x) (q x) h.1, λ s from below. or_from (p s) (q s) (h.2 s from below) (k.2 s from (omega arith)))
      go (inr less) =
          let e : min x y ≡ y = min-eq_right less in
          rw e (k.0, or_right (p y) (q y) k.1, λ s from below. or_from (p s) (q s) (h.2 s from (omega arith)) (k.2 s from below))
