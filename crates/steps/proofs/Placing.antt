-- Places: below the number of steps needed, and no two pairs share one, so that no more steps are made.
use Rattle.std.proofs.Common.{◌≡◌, ℕ, ◌+◌, ◌*◌, ◌/◌, ◌%◌, ◌<◌, ◌≤◌, List, length, get_or, Some, None, Option, sym, refl, ap, ◌∙◌, mul-le-mul, mul-one, mul-add, arith}
use lib.Arith.{digits_lt, digits_div, digits_mod}
use Rattle.machine.proofs.Pigeons.{pigeon}
use Rattle.steps.specs.declared.step.Visit.{Visit}
use Rattle.steps.specs.declared.step.Visit.TheVariants.{First, Second}
use Rattle.steps.specs.declared.step.Step.{Step}
use Rattle.steps.specs.Steps.{at}
use Rattle.steps.specs.Places.{steps_needed_lem, number_of, place_of, place_at, Proper, Placed}

-- two numbers below a bound, as digits, are those that make their sum
digits_same : (c l r l' r' : ℕ) → r < c → r' < c → l * c + r ≡ l' * c + r' → (l ≡ l') × (r ≡ r')
digits_same c l r l' r' h h' e = (
  sym (digits_div l h) ∙ ap (λ n. n / c) e ∙ digits_div l' h',
  sym (digits_mod l h) ∙ ap (λ n. n % c) e ∙ digits_mod l' h',
)

-- a state, if there is one, is below p
abbrev Below : ℕ → Option ℕ → Type 0
Below p None = Unit {0}
Below p (Some l) = l < p

-- the number of a state tells it
number_same : (p : ℕ) (l l' : Option ℕ) → Below p l → Below p l' → number_of p l ≡ number_of p l' → l ≡ l'
number_same p None None h k e = refl
number_same p None (Some l) h k e = absurd (omega arith)
number_same p (Some l) None h k e = absurd (omega arith)
number_same p (Some l) (Some l') h k e = ap Some e

number_below : (q : ℕ) (r : Option ℕ) → Below q r → number_of q r < q + 1
number_below q None h = omega arith
number_below q (Some r) h = omega arith

-- at most 64 states on each side
pub product_most : (p q : ℕ) → p ≤ 64 → q ≤ 64 → p * q ≤ 4096
product_most p q h k = mul-le-mul h k

module _ (p q : ℕ) where
  proper_left : (l r : Option ℕ) (v : Visit) → Proper p q l r v → Below p l
  proper_left None r v h = tt
  proper_left (Some l) None First h = h
  proper_left (Some l) None Second h = absurd h
  proper_left (Some l) (Some r) v h = h.0

  proper_right : (l r : Option ℕ) (v : Visit) → Proper p q l r v → Below q r
  proper_right l None v h = tt
  proper_right None (Some r) First h = h
  proper_right None (Some r) Second h = absurd h
  proper_right (Some l) (Some r) v h = h.1

  row : p * (q + 1) ≡ p * q + p
  row = mul-add p q 1 ∙ ap (λ n. p * q + n) (mul-one p)

  -- the place of a first visit
  first_below : (l r : Option ℕ) → Proper p q l r First → place_of p q l r First < p * q + p + q
  first_below None None h = absurd h
  first_below None (Some r) h = omega (arith, row)
  first_below (Some l) None h = let lt : q < q + 1 = omega arith in omega (arith, row, digits_lt h lt)
  first_below (Some l) (Some r) h = let lt : r < q + 1 = omega arith in omega (arith, row, digits_lt h.0 lt)

  -- both sides are alive at a second visit
  again_below : (l r : Option ℕ) → Proper p q l r Second → place_of p q l r Second < steps_needed_lem p q
  again_below None None h = absurd h
  again_below None (Some r) h = absurd h
  again_below (Some l) None h = absurd h
  again_below (Some l) (Some r) h = omega (arith, digits_lt h.0 h.1)

  again_same : (l r l' r' : Option ℕ) → Proper p q l r Second → Proper p q l' r' Second → place_of p q l r Second ≡ place_of p q l' r' Second
      → (l ≡ l') × (r ≡ r')
  again_same None None l' r' h k e = absurd h
  again_same None (Some r) l' r' h k e = absurd h
  again_same (Some l) None l' r' h k e = absurd h
  again_same (Some l) (Some r) None None h k e = absurd k
  again_same (Some l) (Some r) None (Some r') h k e = absurd k
  again_same (Some l) (Some r) (Some l') None h k e = absurd k
  again_same (Some l) (Some r) (Some l') (Some r') h k e =
      let d = digits_same q l r l' r' h.1 k.1 (omega arith) in (ap Some d.0, ap Some d.1)

  pub place_below : (l r : Option ℕ) (v : Visit) → Proper p q l r v → place_of p q l r v < steps_needed_lem p q
  place_below l r First h = let k = first_below l r h in omega arith
  place_below l r Second h = again_below l r h

  pub place_same : (l r l' r' : Option ℕ) (v v' : Visit) → Proper p q l r v → Proper p q l' r' v' → place_of p q l r v ≡ place_of p q l' r' v'
      → (l ≡ l') × (r ≡ r') × (v ≡ v')
  place_same l r l' r' First First h k e =
      let d = digits_same (q + 1) (number_of p l) (number_of q r) (number_of p l') (number_of q r') (number_below q r (proper_right l r First h)) (number_below q r' (proper_right l' r' First k)) e in (
        number_same p l l' (proper_left l r First h) (proper_left l' r' First k) d.0,
        number_same q r r' (proper_right l r First h) (proper_right l' r' First k) d.1,
        refl,
      )
  place_same l r l' r' First Second h k e = let a = first_below l r h in absurd (omega arith)
  place_same l r l' r' Second First h k e = let a = first_below l' r' k in absurd (omega arith)
  place_same l r l' r' Second Second h k e = let d = again_same l r l' r' h k e in (d.0, d.1, refl)

  -- no more steps than places
  pub place_room : (L : List Step) (C : List ℕ) → Placed p q L C → length L ≤ steps_needed_lem p q
  place_room L C P =
      pigeon (steps_needed_lem p q) (length L) (λ i. place_at p q (at L i))
      (λ i h. place_below (at L i).left.state (at L i).right.state (at L i).visit (P.proper i h))
      (λ i j h k e. sym (P.cell i h) ∙ ap (λ n. get_or C n 0) e ∙ P.cell j k)
