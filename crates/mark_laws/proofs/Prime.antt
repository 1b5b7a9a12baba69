-- Arithmetic modulo 37, which is prime.
use Rattle.std.proofs.Common.{◌≡◌, ℕ, ◌+◌, ◌-◌, ◌*◌, ◌/◌, ◌%◌, ◌<◌, Bool, true, not, ◌||◌, eqb, ◌⊎◌, sym, refl, ap, ◌∙◌, mul_assoc, mul_comm, add-mul, mul-add, mul_right_comm, arith}
use native.Mathlib.Nat.{div-add-mod}
use Rattle.std.proofs.lemmas.Bool.Decides.{nat_tests}
use Rattle.alphabet.specs.Questions.{every}
use Rattle.alphabet.proofs.Bounded.{decides_every}

-- a product of two numbers below 37 is 0 modulo 37 only if one of them is 0: 1,369 products, which antt computes
abbrev regular : ℕ → ℕ → Bool
regular a b = not (eqb (a * b % 37) 0) || (eqb a 0 || eqb b 0)

all_regular : every 37 (λ a. every 37 (regular a)) ≡ true
unfolding every
all_regular = refl

regular_at : (a b : ℕ) → a < 37 → b < 37 → regular a b ≡ true
regular_at a b h l = (decides_every (regular a) 37).0 ((decides_every (λ a. every 37 (regular a)) 37).0 all_regular a h) b l

-- the first factor may be taken modulo 37
pub mul_mod : (a b : ℕ) → a % 37 * b % 37 ≡ a * b % 37
mul_mod a b =
    let e : a * b ≡ 37 * (a / 37 * b) + a % 37 * b =
    ap (λ (n : ℕ). n * b) (sym (div-add-mod a 37)) ∙ add-mul (37 * (a / 37)) (a % 37) b ∙ ap (λ (n : ℕ). n + a % 37 * b) (mul_assoc 37 (a / 37) b) in
    omega arith

-- 37 is prime
pub prime : (a b : ℕ) → a * b % 37 ≡ 0 → (a % 37 ≡ 0) ⊎ (b % 37 ≡ 0)
prime a b e =
    let f : a % 37 * (b % 37) % 37 ≡ 0 = mul_mod a (b % 37) ∙ ap (λ (n : ℕ). n % 37) (mul_comm a (b % 37)) ∙ mul_mod b a ∙ ap (λ (n : ℕ). n % 37) (mul_comm b a) ∙ e in
    let r = regular_at (a % 37) (b % 37) (omega arith) (omega arith) in
    grind (arith, nat_tests)

-- a factor gives different multiples at different marks
pub injective : (a p q : ℕ) → p < 37 → q < 37 → a * p % 37 ≡ a * q % 37 → (a % 37 ≡ 0) ⊎ (p ≡ q)
injective a p q h l e =
    let f : ℕ = q + 37 - p in
    let s : q + 37 ≡ p + f = omega arith in
    let g : a * q + a * 37 ≡ a * p + a * f = sym (mul-add a q 37) ∙ ap (λ (n : ℕ). a * n) s ∙ mul-add a p f in
    let z : a * f % 37 ≡ 0 = omega arith in
    grind (arith, prime a f z)

-- a turn gives different marks at different ones
pub turn_apart : (a b p q : ℕ) → 0 < a → a < 37 → p < 37 → q < 37 → (a * p + b) % 37 ≡ (a * q + b) % 37 → p ≡ q
turn_apart a b p q low high h l e =
    let f : a * p % 37 ≡ a * q % 37 = omega arith in
    grind (arith, injective a p q h l f)

-- two turns with equal values at two different marks are one
pub turn_same : (a b c d p q : ℕ) → a < 37 → b < 37 → c < 37 → d < 37 → p < 37 → q < 37 → (p ≡ q → ⊥) → (a * p + b) % 37 ≡ (c * p + d) % 37 → (a * q + b) % 37 ≡ (c * q + d) % 37 → (a ≡ c) × (b ≡ d)
turn_same a b c d p q ha hb hc hd hp hq ne e f =
    let g : ℕ = c + 37 - a in
    let s : c + 37 ≡ a + g = omega arith in
    let i : c * p + 37 * p ≡ a * p + g * p = sym (add-mul c 37 p) ∙ ap (λ (n : ℕ). n * p) s ∙ add-mul a g p in
    let j : c * q + 37 * q ≡ a * q + g * q = sym (add-mul c 37 q) ∙ ap (λ (n : ℕ). n * q) s ∙ add-mul a g q in
    let z : g * p % 37 ≡ g * q % 37 = omega arith in
    let r : a ≡ c = grind (arith, injective g p q hp hq z) in
    let k = ap (λ (n : ℕ). n * p) r in
    (r, omega arith)

-- the value of one turn at the value of another
pub turn_turn : (a b c d s : ℕ) → (a * c % 37 * s + (b * c + d) % 37) % 37 ≡ (c * ((a * s + b) % 37) + d) % 37
turn_turn a b c d s =
    let e = mul_mod (a * c) s in
    let f = mul_mod (a * s + b) c in
    let g : (a * s + b) * c ≡ a * c * s + b * c = add-mul (a * s) b c ∙ ap (λ (n : ℕ). n + b * c) (mul_right_comm a s c) in
    let h = mul_comm c ((a * s + b) % 37) in
    omega arith
