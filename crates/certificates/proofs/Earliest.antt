-- A text that passes is the earliest that distinguishes.
use Rattle.std.proofs.Common.{◌≡◌, ℕ, zero, suc, ◌<◌, true, not, ◌&&◌, ◌⊎◌, List, [], ◌∷◌, length, Some, sym, refl, ◌∙◌, subst, inl, inr, arith}
use Rattle.std.proofs.lemmas.Bool.{and_parts, not-true}
use Rattle.machine.specs.Machine.{Machine, transduced}
use Rattle.machine.specs.Shortlex.{Lex, Earlier}
use Rattle.machine.specs.Compared.{Told}
use Rattle.machine.proofs.Runs.{prefixed_nothing}
use Rattle.alphabet.specs.Questions.{every}
use Rattle.alphabet.proofs.Bounded.{decides_every}
use Rattle.certificates.specs.Same.{same_output}
use Rattle.certificates.specs.Points.{Point, start, goes_on}
use Rattle.certificates.specs.Earliest.{same_at, same_below, same_before, differs_at}
use Rattle.certificates.specs.Theorems.{Within}
use Rattle.certificates.proofs.Same.{differ_output}
use Rattle.certificates.proofs.Steps.{SameFrom, same_end, same_step, same_every}

module _ (a b : Machine) (size : ℕ) (in_a : Within size a) (in_b : Within size b) where
  -- texts of one length
  same_at_lem : (n : ℕ) (u : List ℕ) (x : Point) → length u ≡ n → same_at a b size n x ≡ true → SameFrom a b x u
  unfolding same_at
  same_at_lem zero [] x l e = same_end a b x e
  same_at_lem zero (s ∷ u) x l e = absurd (omega arith)
  same_at_lem (suc n) [] x l e = absurd (omega arith)
  same_at_lem (suc n) (s ∷ u) x l e = same_every a b size in_a in_b (same_at a b size n) x s u (λ y. same_at_lem n u y (omega arith)) e

  -- texts that are smaller where they first differ
  same_before_lem : (t u : List ℕ) (x : Point) → length u ≡ length t → Lex u t → same_before a b size t x ≡ true → SameFrom a b x u
  unfolding same_before
  same_before_lem [] [] x l h e = absurd h
  same_before_lem [] (s ∷ u) x l h e = absurd (omega arith)
  same_before_lem (c ∷ t) [] x l h e = absurd h
  same_before_lem (c ∷ t) (s ∷ u) x l h e = go h (λ y. same_before_lem t u y (omega arith))
    where
      parts : (every c (goes_on a b (same_at a b size (length t)) x) ≡ true) × (goes_on a b (same_before a b size t) x c ≡ true)
      parts = and_parts (every c (goes_on a b (same_at a b size (length t)) x)) (goes_on a b (same_before a b size t) x c) e

      go : (s < c) ⊎ ((s ≡ c) × Lex u t) → ((y : Point) → Lex u t → same_before a b size t y ≡ true → SameFrom a b y u) → SameFrom a b x (s ∷ u)
      go (inl less) ih =
          same_step a b (same_at a b size (length t)) x s u (λ y. same_at_lem (length t) u y (omega arith))
          ((decides_every (goes_on a b (same_at a b size (length t)) x) c).0 parts.0 s less)
      go (inr (same, lex)) ih =
          same_step a b (same_before a b size t) x s u (λ y. ih y lex) (subst (λ (n : ℕ). goes_on a b (same_before a b size t) x n ≡ true) (sym same) parts.1)

  -- from the start on is on the whole
  from_start : (u : List ℕ) → SameFrom a b start u → transduced a u ≡ transduced b u
  from_start u e = sym (prefixed_nothing (transduced a u)) ∙ e ∙ prefixed_nothing (transduced b u)

  pub earliest : (t : List ℕ) → differs_at a b size t ≡ true → Told a b (Some t)
  unfolding differs_at same_below
  earliest t e = (differ_output (transduced a t) (transduced b t) (not-true (same_output (transduced a t) (transduced b t)) outer.1), earlier)
    where
      outer : ((same_below a b size (length t) && same_before a b size t start) ≡ true) × (not (same_output (transduced a t) (transduced b t)) ≡ true)
      outer = and_parts (same_below a b size (length t) && same_before a b size t start) (not (same_output (transduced a t) (transduced b t))) e

      inner : (same_below a b size (length t) ≡ true) × (same_before a b size t start ≡ true)
      inner = and_parts (same_below a b size (length t)) (same_before a b size t start) outer.0

      earlier : (y : List ℕ) → Earlier y t → transduced a y ≡ transduced b y
      earlier y (inl l) = from_start y (same_at_lem (length y) y start refl ((decides_every (λ k. same_at a b size k start) (length t)).0 inner.0 (length y) l))
      earlier y (inr (l, lex)) = from_start y (same_before_lem t y start l lex inner.1)
