-- Sets of marks as the code has them: a bit that is read, and a bit that is added.
use Rattle.std.proofs.Common.{◌≡◌, ℕ, ◌+◌, ◌*◌, ◌/◌, ◌%◌, ◌^◌, ◌<◌, Bool, true, false, eqb, one-mul, add-one, arith}
use lib.Bits.{bit_and, bit_or, and_mask, or_shifted_r}
use Rattle.std.proofs.lemmas.Bool.Decides.{nat_tests}
use Rattle.std.proofs.lemmas.Nat.{one_shl}
use Rattle.mark_laws.specs.declared.MarkSet.{MarkSet}
use Rattle.mark_laws.specs.Marks.{bit, bits_of, in_set}
use Rattle.mark_laws.proofs.Bits.{bits_below}

pub bit_read : (g : MarkSet) (s : ℕ) → s < 37 → eqb (bit_and (g.bits / 2 ^ s) 1) 1 ≡ in_set g s
unfolding bit
bit_read g s h = let e = and_mask (g.bits / 2 ^ s) 1 in grind (arith, nat_tests)

-- one more number is looked at: it passes and its bit is added, or it does not
pub bits_with : (n b r : ℕ) (p : ℕ → Bool) → n < 37 → b ≡ bits_of n p → true ≡ p n → r ≡ bit_or b (1 * 2 ^ n % 2 ^ 64) → r ≡ bits_of (n + 1) p
unfolding bits_of
bits_with n b r p h inv e is =
    let f = one_shl n 64 (omega arith) in
    let g = or_shifted_r 1 n (bits_of n p) (bits_below n p) in
    let i = one-mul (2 ^ n) in
    rw add-one (grind arith)

pub bits_without : (n b r : ℕ) (p : ℕ → Bool) → b ≡ bits_of n p → false ≡ p n → r ≡ b → r ≡ bits_of (n + 1) p
unfolding bits_of
bits_without n b r p inv e is = rw add-one (grind arith)
