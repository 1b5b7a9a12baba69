-- The bits of a number, and the number made of bits.
use Rattle.std.proofs.Common.{◌≡◌, ℕ, zero, suc, ◌+◌, ◌-◌, ◌*◌, ◌/◌, ◌%◌, ◌^◌, ◌<◌, ◌≤◌, Bool, true, false, ◌&&◌, eqb, ltb, refl, ap, ◌∙◌, inl, inr, mod-lt, mod-eq_of_lt, one-mul, pow-suc, zero-mul, one-add, arith, pow_pos, pow_mono, pow-add}
use native.Mathlib.Nat.{mul-add-div_right, div-eq_of_lt}
use lib.Pow.{mod-pow-add, split, high}
use Rattle.std.proofs.lemmas.Bool.Decides.{nat_tests}
use Rattle.std.proofs.lemmas.Bool.{cases_Bool}
use Rattle.std.proofs.lemmas.Nat.{shr_below}
use Rattle.mark_laws.specs.Marks.{bit, bits_of}

-- a number has no bit above its own
pub bit_above : (n s : ℕ) → n < 2 ^ s → bit n s ≡ false
unfolding bit
bit_above n s h = let e = div-eq_of_lt h in grind (arith, nat_tests)

-- a power of two has its own bit, and leaves those below
bit_top : (r n : ℕ) → r < 2 ^ n → bit (2 ^ n + r) n ≡ true
unfolding bit
bit_top r n h = let e = high 1 n h in let f = one-mul (2 ^ n) in grind (arith, nat_tests)

bit_below : (r n s : ℕ) → s < n → bit (2 ^ n + r) s ≡ bit r s
unfolding bit
bit_below r n s h =
    let d : ℕ = n - suc s in
    let a : n ≡ suc d + s = omega arith in
    let e : 2 ^ n ≡ 2 ^ d * 2 * 2 ^ s = ap (λ (k : ℕ). 2 ^ k) a ∙ pow-add 2 (suc d) s ∙ ap (λ (k : ℕ). k * 2 ^ s) (pow-suc 2 d) in
    let f : (2 ^ n + r) / 2 ^ s ≡ 2 ^ d * 2 + r / 2 ^ s = ap (λ (k : ℕ). (k + r) / 2 ^ s) e ∙ mul-add-div_right (pow_pos s) (2 ^ d * 2) r in
    let g : (2 ^ n + r) / 2 ^ s % 2 ≡ r / 2 ^ s % 2 = omega arith in
    ap (λ (k : ℕ). eqb k 1) g

pub bits_below : (n : ℕ) (p : ℕ → Bool) → bits_of n p < 2 ^ n
unfolding bits_of
bits_below zero p = omega arith
bits_below (suc n) p = let ih = bits_below n p in let e = pow-suc 2 n in grind arith

-- the bits of the number made of bits
pub bit_of_bits : (n : ℕ) (p : ℕ → Bool) (s : ℕ) → bit (bits_of n p) s ≡ (ltb s n && p s)
unfolding bits_of
bit_of_bits zero p s = bit_above 0 s (pow_pos s) ∙ grind (arith, nat_tests)
bit_of_bits (suc n) p s =
    let ih = bit_of_bits n p s in
    let b = bits_below n p in
    let top : s ≡ n → bit (2 ^ n + bits_of n p) s ≡ true = λ e. rw e (bit_top (bits_of n p) n b) in
    let under = bit_below (bits_of n p) n s in
    let over = bit_above (2 ^ n + bits_of n p) s in
    let wide : n < s → 2 ^ suc n ≤ 2 ^ s = λ l. pow_mono l in
    let e = pow-suc 2 n in
    grind (arith, nat_tests)

-- a number without its top bit fits below it
lower : (n b : ℕ) → b < 2 ^ suc n → bit b n ≡ false → b < 2 ^ n
unfolding bit
lower n b h e =
    let below = shr_below b 1 n (rw one-add h) in
    let none : b / 2 ^ n ≡ 0 = grind (arith, nat_tests) in
    let above = ap (λ (k : ℕ). k * 2 ^ n) none in
    let whole = split b n in
    let low = mod-lt b (pow_pos n) in
    omega arith

-- a number that is not 0 has some bit
pub some_bit : (n b : ℕ) → b < 2 ^ n → 0 < b → (s : ℕ) × (s < n) × (bit b s ≡ true)
some_bit zero b h l = absurd (omega arith)
some_bit (suc n) b h l = elim (cases_Bool (bit b n)) [
  | inl e ↦ (n, omega arith, e)
  | inr e ↦ let r = some_bit n b (lower n b h e) l in (r.0, omega (arith, r.1), r.2)
]

-- equal bits make equal numbers
pub bits_same : (n : ℕ) (p q : ℕ → Bool) → ((s : ℕ) → s < n → p s ≡ q s) → bits_of n p ≡ bits_of n q
unfolding bits_of
bits_same zero p q h = refl
bits_same (suc n) p q h =
    let ih = bits_same n p q (λ s l. h s (omega arith)) in
    let e = h n (omega arith) in
    cc

-- a number is made of its bits
bits_of_mod : (n b : ℕ) → bits_of n (bit b) ≡ b % 2 ^ n
unfolding bit bits_of
bits_of_mod zero b = omega arith
bits_of_mod (suc n) b =
    let ih = bits_of_mod n b in
    let e = rw one-add at (mod-pow-add b 1 n) in
    let none : b / 2 ^ n % 2 ≡ 0 → b / 2 ^ n % 2 * 2 ^ n ≡ 0 = λ z. ap (λ (k : ℕ). k * 2 ^ n) z ∙ zero-mul (2 ^ n) in
    let one : b / 2 ^ n % 2 ≡ 1 → b / 2 ^ n % 2 * 2 ^ n ≡ 2 ^ n = λ z. ap (λ (k : ℕ). k * 2 ^ n) z ∙ one-mul (2 ^ n) in
    grind (arith, nat_tests)

pub bits_of_bit : (n b : ℕ) → b < 2 ^ n → bits_of n (bit b) ≡ b
bits_of_bit n b h = bits_of_mod n b ∙ mod-eq_of_lt h
