-- Ranges form an alphabet: every law, at every size.
use Rattle.std.proofs.Common.{◌≡◌, ℕ, ◌<◌, ◌≤◌, Bool, true, false, ◌&&◌, ◌⊎◌, ℤ, pos, negsuc, ◌+ℤ◌, nat_abs, Some, None, Ok, Err, Option, refl, arith}
use Rattle.std.proofs.lemmas.Bool.Decides.{nat_tests}
use Rattle.std.proofs.lemmas.Int.{ints}
use Rattle.alphabet.specs.declared.cause.Cause.{Cause}
use Rattle.alphabet.specs.declared.cause.Cause.TheVariants.{NoSymbols, BeyondSize, OutOfBounds}
use Rattle.alphabet.specs.Questions.{lies}
use Rattle.alphabet.specs.Laws.{Lawful}
use Rattle.range_laws.specs.declared.Range.{Range}
use Rattle.range_laws.specs.declared.RangeTerm.{RangeTerm}
use Rattle.range_laws.specs.declared.RangeTerm.TheVariants.{Constant, Shift}
use Rattle.range_laws.specs.Ranges.{ranges, clamped, check_range, check_term, in_range, value_at, symbol_at, constant_from, followed_by, narrowed_to, shifted_into_lem}

module _ (n : ℕ) where
  some : (g : Range) → check_range n g ≡ Ok tt → (s : ℕ) × (in_range g s ≡ true)
  some g h = (g.low, grind (arith, nat_tests))

  inside : (g : Range) (s : ℕ) → check_range n g ≡ Ok tt → in_range g s ≡ true → s < n
  inside g s h k = grind (arith, nat_tests)

  guard_cause : (g : Range) (c : Cause) → check_range n g ≡ Err c → (c ≡ NoSymbols) ⊎ (c ≡ BeyondSize)
  guard_cause g c h = grind (arith, nat_tests)

  term_cause : (t : RangeTerm) (c : Cause) → check_term n t ≡ Err c → c ≡ OutOfBounds
  term_cause (Constant d) c h = grind (arith, nat_tests)
  term_cause (Shift k) c h = grind (arith, nat_tests)

  value_at_lem : (t : RangeTerm) (s x : ℕ) → check_term n t ≡ Ok tt → value_at n t s ≡ Some x → s < n
  value_at_lem (Constant d) s x h e = grind (arith, nat_tests)
  value_at_lem (Shift k) s x h e = grind (arith, nat_tests)

  -- a symbol is below the size, and is the number
  symbol_below : (z : ℤ) (x : ℕ) → symbol_at n z ≡ Some x → x < n
  symbol_below (pos y) x e = grind (arith, nat_tests)
  symbol_below (negsuc y) x e = grind (arith, nat_tests)

  symbol_is : (z : ℤ) (x : ℕ) → symbol_at n z ≡ Some x → z ≡ pos x
  symbol_is (pos y) x e = grind (arith, nat_tests)
  symbol_is (negsuc y) x e = grind (arith, nat_tests)

  symbol_from : (x : ℕ) → x < n → symbol_at n (pos x) ≡ Some x
  symbol_from x h = grind (arith, nat_tests)

  value_inside : (t : RangeTerm) (s x : ℕ) → check_term n t ≡ Ok tt → value_at n t s ≡ Some x → x < n
  value_inside (Constant d) s x h e = grind (arith, nat_tests)
  value_inside (Shift k) s x h e = symbol_below (pos s +ℤ k) x (grind (arith, nat_tests))

  constant_is : (c s x : ℕ) → value_at n (Constant c) s ≡ Some x → c ≡ x
  constant_is c s x e = grind (arith, nat_tests)

  shift_is : (k : ℤ) (s x : ℕ) → value_at n (Shift k) s ≡ Some x → pos s +ℤ k ≡ pos x
  shift_is k s x e = symbol_is (pos s +ℤ k) x (grind (arith, nat_tests))

  shift_from : (k : ℤ) (s x : ℕ) → s < n → x < n → pos s +ℤ k ≡ pos x → value_at n (Shift k) s ≡ Some x
  shift_from k s x h l e = let f = symbol_from x l in grind (arith, nat_tests)

  followed_sound : (t u v : RangeTerm) → check_term n t ≡ Ok tt → check_term n u ≡ Ok tt → followed_by n t u ≡ Some v → check_term n v ≡ Ok tt
  followed_sound (Constant c) u v p q e = go (value_at n u c) refl e
    where
      go : (o : Option ℕ) → value_at n u c ≡ o → constant_from o ≡ Some v → check_term n v ≡ Ok tt
      go None f h = grind arith
      go (Some x) f h = let l = value_inside u c x q f in grind (arith, nat_tests)
  followed_sound (Shift j) (Constant d) v p q e = grind (arith, nat_tests)
  followed_sound (Shift j) (Shift k) v p q e = grind (arith, nat_tests)

  followed_value : (t u v : RangeTerm) (s x y : ℕ) → check_term n t ≡ Ok tt → check_term n u ≡ Ok tt → followed_by n t u ≡ Some v → value_at n t s ≡ Some x → value_at n u x ≡ Some y → value_at n v s ≡ Some y
  followed_value (Constant c) u v s x y p q e f h =
      let k : value_at n u c ≡ Some y = rw (constant_is c s x f) h in
      let l = value_at_lem (Constant c) s x p f in
      let i : v ≡ Constant y = grind (arith, nat_tests) in
      grind (arith, nat_tests)
  followed_value (Shift j) (Constant d) v s x y p q e f h =
      let l = value_at_lem (Shift j) s x p f in
      let i : v ≡ Constant d = grind arith in
      let k = constant_is d x y h in
      grind (arith, nat_tests)
  followed_value (Shift j) (Shift k) v s x y p q e f h =
      let l = value_at_lem (Shift j) s x p f in
      let a = shift_is j s x f in
      let b = shift_is k x y h in
      let sum : pos s +ℤ (j +ℤ k) ≡ pos y = omega (arith, ints) in
      let w = shift_from (j +ℤ k) s y l (value_inside (Shift k) x y q h) sum in
      let i : v ≡ Shift (j +ℤ k) = grind (arith, nat_tests) in
      cc

  followed_none : (t u : RangeTerm) (s x : ℕ) → check_term n t ≡ Ok tt → check_term n u ≡ Ok tt → followed_by n t u ≡ None → value_at n t s ≡ Some x → value_at n u x ≡ None
  followed_none (Constant c) u s x p q e f = let i = constant_is c s x f in go (value_at n u c) refl e
    where
      go : (o : Option ℕ) → value_at n u c ≡ o → constant_from o ≡ None → value_at n u x ≡ None
      go None g h = let i = constant_is c s x f in cc
      go (Some y) g h = grind arith
  followed_none (Shift j) (Constant d) s x p q e f = grind arith
  followed_none (Shift j) (Shift k) s x p q e f = go (value_at n (Shift k) x) refl
    where
      go : (o : Option ℕ) → value_at n (Shift k) x ≡ o → value_at n (Shift k) x ≡ None
      go None g = g
      go (Some y) g =
          let a = shift_is j s x f in
          let b = shift_is k x y g in
          let l = value_at_lem (Shift j) s x p f in
          let r = value_inside (Shift k) x y q g in
          let far : n ≤ nat_abs (j +ℤ k) = grind (arith, nat_tests) in
          absurd (omega (arith, ints))

  twice : (t u : RangeTerm) (a b s x y z w : ℕ) → check_term n t ≡ Ok tt → check_term n u ≡ Ok tt → (a ≡ b → ⊥) → value_at n t a ≡ Some x → value_at n u a ≡ Some x → value_at n t b ≡ Some y → value_at n u b ≡ Some y → value_at n t s ≡ Some z → value_at n u s ≡ Some w → z ≡ w
  twice (Constant c) (Constant d) a b s x y z w p q ne ta ua tb ub ts us =
      omega (arith, constant_is c a x ta, constant_is d a x ua, constant_is c s z ts, constant_is d s w us)
  twice (Constant c) (Shift k) a b s x y z w p q ne ta ua tb ub ts us =
      absurd (ne (omega (arith, ints, constant_is c a x ta, shift_is k a x ua, constant_is c b y tb, shift_is k b y ub)))
  twice (Shift j) (Constant d) a b s x y z w p q ne ta ua tb ub ts us =
      absurd (ne (omega (arith, ints, shift_is j a x ta, constant_is d a x ua, shift_is j b y tb, constant_is d b y ub)))
  twice (Shift j) (Shift k) a b s x y z w p q ne ta ua tb ub ts us =
      omega (arith, ints, shift_is j a x ta, shift_is k a x ua, shift_is j s z ts, shift_is k s w us)

  -- the values of g under a shift that lie in h
  abbrev Into : Range → ℤ → Range → ℕ → Bool
  Into g k h s = in_range g s && lies (value_at n (Shift k) s) (in_range h)

  shift_sound : (g h r : Range) (k : ℤ) → check_range n g ≡ Ok tt → check_range n h ≡ Ok tt → shifted_into_lem g k h ≡ Some r → check_range n r ≡ Ok tt
  shift_sound g h r (pos k) p q e = grind (arith, nat_tests)
  shift_sound g h r (negsuc k) p q e = grind (arith, nat_tests)

  shift_holds : (g h r : Range) (k : ℤ) (s : ℕ) → check_range n g ≡ Ok tt → check_range n h ≡ Ok tt → shifted_into_lem g k h ≡ Some r → in_range r s ≡ Into g k h s
  shift_holds g h r (pos k) s p q e = grind (arith, nat_tests)
  shift_holds g h r (negsuc k) s p q e = grind (arith, nat_tests)

  shift_none : (g h : Range) (k : ℤ) (s : ℕ) → check_range n g ≡ Ok tt → check_range n h ≡ Ok tt → shifted_into_lem g k h ≡ None → Into g k h s ≡ false
  shift_none g h (pos k) s p q e = grind (arith, nat_tests)
  shift_none g h (negsuc k) s p q e = grind (arith, nat_tests)

  narrowed_sound : (g h r : Range) (t : RangeTerm) → check_range n g ≡ Ok tt → check_term n t ≡ Ok tt → check_range n h ≡ Ok tt → narrowed_to g t h ≡ Some r → check_range n r ≡ Ok tt
  narrowed_sound g h r (Constant c) p o q e = grind (arith, nat_tests)
  narrowed_sound g h r (Shift k) p o q e = shift_sound g h r k p q e

  narrowed_holds : (g h r : Range) (t : RangeTerm) (s : ℕ) → check_range n g ≡ Ok tt → check_term n t ≡ Ok tt → check_range n h ≡ Ok tt → narrowed_to g t h ≡ Some r → in_range r s ≡ (in_range g s && lies (value_at n t s) (in_range h))
  narrowed_holds g h r (Constant c) s p o q e = grind (arith, nat_tests)
  narrowed_holds g h r (Shift k) s p o q e = shift_holds g h r k s p q e

  narrowed_none : (g h : Range) (t : RangeTerm) (s : ℕ) → check_range n g ≡ Ok tt → check_term n t ≡ Ok tt → check_range n h ≡ Ok tt → narrowed_to g t h ≡ None → (in_range g s && lies (value_at n t s) (in_range h)) ≡ false
  narrowed_none g h (Constant c) s p o q e = grind (arith, nat_tests)
  narrowed_none g h (Shift k) s p o q e = shift_none g h k s p q e

pub lawful : (n : ℕ) → Lawful (ranges (clamped n))
lawful n = let m = clamped n in record {
  size_low = omega arith;
  size_high = omega arith;
  guard_some = some m;
  guard_inside = inside m;
  guard_cause = guard_cause m;
  term_cause = term_cause m;
  value_at_lem = value_at_lem m;
  value_inside = value_inside m;
  constant_sound = λ c h. grind (arith, nat_tests);
  constant_value = λ c s h l. grind (arith, nat_tests);
  followed_sound = followed_sound m;
  followed_value = followed_value m;
  followed_none = followed_none m;
  narrowed_sound = narrowed_sound m;
  narrowed_holds = narrowed_holds m;
  narrowed_none = narrowed_none m;
  twice = twice m;
}
