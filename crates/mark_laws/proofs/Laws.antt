-- Marks form an alphabet: every law.
use Rattle.std.proofs.Common.{◌≡◌, ℕ, ◌+◌, ◌*◌, ◌%◌, ◌<◌, true, false, ◌&&◌, ltb, ◌⊎◌, Some, None, Ok, Err, Option, sym, refl, ap, ◌∙◌, arith, pow_pos}
use Rattle.std.proofs.lemmas.Bool.Decides.{nat_tests}
use Rattle.alphabet.specs.declared.cause.Cause.{Cause}
use Rattle.alphabet.specs.declared.cause.Cause.TheVariants.{NoSymbols, BeyondSize, OutOfBounds}
use Rattle.alphabet.specs.Questions.{lies}
use Rattle.alphabet.specs.Laws.{Lawful}
use Rattle.mark_laws.specs.declared.MarkSet.{MarkSet}
use Rattle.mark_laws.specs.declared.MarkTerm.{MarkTerm}
use Rattle.mark_laws.specs.declared.MarkTerm.TheVariants.{Constant, Turn}
use Rattle.mark_laws.specs.Marks.{marks, bit, bits_of, check_set, check_term, in_set, value_at, constant_from, followed_by, goes_into_lem, narrowed_to}
use Rattle.mark_laws.proofs.Bits.{bit_of_bits, bit_above, bits_below, some_bit}
use Rattle.mark_laws.proofs.Prime.{prime, turn_apart, turn_same, turn_turn}

some : (g : MarkSet) → check_set g ≡ Ok tt → (s : ℕ) × (in_set g s ≡ true)
some g h =
    let r = some_bit 37 g.bits (grind (arith, nat_tests)) (grind (arith, nat_tests)) in
    (r.0, grind (arith, nat_tests, r.1, r.2))

guard_cause : (g : MarkSet) (c : Cause) → check_set g ≡ Err c → (c ≡ NoSymbols) ⊎ (c ≡ BeyondSize)
guard_cause g c h = grind (arith, nat_tests)

term_cause : (t : MarkTerm) (c : Cause) → check_term t ≡ Err c → c ≡ OutOfBounds
term_cause (Constant d) c h = grind (arith, nat_tests)
term_cause (Turn a b) c h = grind (arith, nat_tests)

value_at_lem : (t : MarkTerm) (s x : ℕ) → check_term t ≡ Ok tt → value_at t s ≡ Some x → s < 37
value_at_lem (Constant d) s x h e = grind (arith, nat_tests)
value_at_lem (Turn a b) s x h e = grind (arith, nat_tests)

value_inside : (t : MarkTerm) (s x : ℕ) → check_term t ≡ Ok tt → value_at t s ≡ Some x → x < 37
value_inside (Constant d) s x h e = grind (arith, nat_tests)
value_inside (Turn a b) s x h e = grind (arith, nat_tests)

-- what a value is
constant_is : (c s x : ℕ) → value_at (Constant c) s ≡ Some x → c ≡ x
constant_is c s x e = grind (arith, nat_tests)

turn_is : (a b s x : ℕ) → value_at (Turn a b) s ≡ Some x → (a * s + b) % 37 ≡ x
turn_is a b s x e = grind (arith, nat_tests)

-- what a sound turn is
factor_low : (a b : ℕ) → check_term (Turn a b) ≡ Ok tt → 0 < a
factor_low a b h = grind (arith, nat_tests)

factor_high : (a b : ℕ) → check_term (Turn a b) ≡ Ok tt → a < 37
factor_high a b h = grind (arith, nat_tests)

offset_high : (a b : ℕ) → check_term (Turn a b) ≡ Ok tt → b < 37
offset_high a b h = grind (arith, nat_tests)

followed_sound : (t u v : MarkTerm) → check_term t ≡ Ok tt → check_term u ≡ Ok tt → followed_by t u ≡ Some v → check_term v ≡ Ok tt
followed_sound (Constant c) u v p q e = go (value_at u c) refl e
  where
    go : (o : Option ℕ) → value_at u c ≡ o → constant_from o ≡ Some v → check_term v ≡ Ok tt
    go None f h = grind arith
    go (Some x) f h = let l = value_inside u c x q f in grind (arith, nat_tests)
followed_sound (Turn a b) (Constant d) v p q e = grind (arith, nat_tests)
followed_sound (Turn a b) (Turn c d) v p q e =
    let z = prime a c in
    let i : v ≡ Turn (a * c % 37) ((b * c + d) % 37) = grind arith in
    let k = factor_low a b p in
    let l = factor_high a b p in
    let m = factor_low c d q in
    let n = factor_high c d q in
    let r : 0 < a * c % 37 = grind arith in
    grind (arith, nat_tests)

followed_value : (t u v : MarkTerm) (s x y : ℕ) → check_term t ≡ Ok tt → check_term u ≡ Ok tt → followed_by t u ≡ Some v → value_at t s ≡ Some x → value_at u x ≡ Some y → value_at v s ≡ Some y
followed_value (Constant c) u v s x y p q e f h =
    let k : value_at u c ≡ Some y = rw (constant_is c s x f) h in
    let l = value_at_lem (Constant c) s x p f in
    let i : v ≡ Constant y = grind (arith, nat_tests) in
    grind (arith, nat_tests)
followed_value (Turn a b) (Constant d) v s x y p q e f h =
    let l = value_at_lem (Turn a b) s x p f in
    let i : v ≡ Constant d = grind arith in
    let k = constant_is d x y h in
    grind (arith, nat_tests)
followed_value (Turn a b) (Turn c d) v s x y p q e f h =
    let l = value_at_lem (Turn a b) s x p f in
    let i : v ≡ Turn (a * c % 37) ((b * c + d) % 37) = grind arith in
    let j = turn_is a b s x f in
    let k = turn_is c d x y h in
    let r : (a * c % 37 * s + (b * c + d) % 37) % 37 ≡ y = turn_turn a b c d s ∙ ap (λ (n : ℕ). (c * n + d) % 37) j ∙ k in
    grind (arith, nat_tests)

followed_none : (t u : MarkTerm) (s x : ℕ) → check_term t ≡ Ok tt → check_term u ≡ Ok tt → followed_by t u ≡ None → value_at t s ≡ Some x → value_at u x ≡ None
followed_none (Constant c) u s x p q e f = let i = constant_is c s x f in go (value_at u c) refl e
  where
    go : (o : Option ℕ) → value_at u c ≡ o → constant_from o ≡ None → value_at u x ≡ None
    go None g h = let i = constant_is c s x f in cc
    go (Some y) g h = grind arith
followed_none (Turn a b) (Constant d) s x p q e f = grind arith
followed_none (Turn a b) (Turn c d) s x p q e f = grind arith

-- a turn has the value of a constant at one mark at most
constant_turn : (c k l a b x y : ℕ) → check_term (Constant c) ≡ Ok tt → check_term (Turn k l) ≡ Ok tt → value_at (Constant c) a ≡ Some x → value_at (Turn k l) a ≡ Some x → value_at (Constant c) b ≡ Some y → value_at (Turn k l) b ≡ Some y → a ≡ b
constant_turn c k l a b x y p q ta ua tb ub =
    turn_apart k l a b (factor_low k l q) (factor_high k l q) (value_at_lem (Constant c) a x p ta) (value_at_lem (Constant c) b y p tb)
    (turn_is k l a x ua ∙ sym (constant_is c a x ta) ∙ constant_is c b y tb ∙ sym (turn_is k l b y ub))

twice : (t u : MarkTerm) (a b s x y z w : ℕ) → check_term t ≡ Ok tt → check_term u ≡ Ok tt → (a ≡ b → ⊥) → value_at t a ≡ Some x → value_at u a ≡ Some x → value_at t b ≡ Some y → value_at u b ≡ Some y → value_at t s ≡ Some z → value_at u s ≡ Some w → z ≡ w
twice (Constant c) (Constant d) a b s x y z w p q ne ta ua tb ub ts us =
    omega (arith, constant_is c a x ta, constant_is d a x ua, constant_is c s z ts, constant_is d s w us)
twice (Constant c) (Turn k l) a b s x y z w p q ne ta ua tb ub ts us =
    absurd (ne (constant_turn c k l a b x y p q ta ua tb ub))
twice (Turn j i) (Constant d) a b s x y z w p q ne ta ua tb ub ts us =
    absurd (ne (constant_turn d j i a b x y q p ua ta ub tb))
twice (Turn j i) (Turn k l) a b s x y z w p q ne ta ua tb ub ts us =
    let same = turn_same j i k l a b
    (factor_high j i p) (offset_high j i p) (factor_high k l q) (offset_high k l q)
    (value_at_lem (Turn j i) a x p ta) (value_at_lem (Turn j i) b y p tb) ne
    (turn_is j i a x ta ∙ sym (turn_is k l a x ua)) (turn_is j i b y tb ∙ sym (turn_is k l b y ub)) in
    let first = same.0 in
    let second = same.1 in
    cc

narrowed_sound : (g h k : MarkSet) (t : MarkTerm) → check_set g ≡ Ok tt → check_term t ≡ Ok tt → check_set h ≡ Ok tt → narrowed_to g t h ≡ Some k → check_set k ≡ Ok tt
narrowed_sound g h k t p o q e = let b = bits_below 37 (goes_into_lem g t h) in grind (arith, nat_tests)

narrowed_holds : (g h k : MarkSet) (t : MarkTerm) (s : ℕ) → check_set g ≡ Ok tt → check_term t ≡ Ok tt → check_set h ≡ Ok tt → narrowed_to g t h ≡ Some k → in_set k s ≡ (in_set g s && lies (value_at t s) (in_set h))
narrowed_holds g h k t s p o q e =
    let b = bit_of_bits 37 (goes_into_lem g t h) s in
    let i : k.bits ≡ bits_of 37 (goes_into_lem g t h) = grind (arith, nat_tests) in
    let j : bit k.bits s ≡ (ltb s 37 && goes_into_lem g t h s) = ap (λ (n : ℕ). bit n s) i ∙ b in
    grind (arith, nat_tests)

narrowed_none : (g h : MarkSet) (t : MarkTerm) (s : ℕ) → check_set g ≡ Ok tt → check_term t ≡ Ok tt → check_set h ≡ Ok tt → narrowed_to g t h ≡ None → (in_set g s && lies (value_at t s) (in_set h)) ≡ false
narrowed_none g h t s p o q e =
    let b = bit_of_bits 37 (goes_into_lem g t h) s in
    let i : bits_of 37 (goes_into_lem g t h) ≡ 0 = grind (arith, nat_tests) in
    let j : (ltb s 37 && goes_into_lem g t h s) ≡ false = sym b ∙ ap (λ (n : ℕ). bit n s) i ∙ bit_above 0 s (pow_pos s) in
    grind (arith, nat_tests)

pub lawful : Lawful marks
lawful = record {
  size_low = omega arith;
  size_high = omega arith;
  guard_some = some;
  guard_inside = λ g s h k. grind (arith, nat_tests);
  guard_cause = guard_cause;
  term_cause = term_cause;
  value_at_lem = value_at_lem;
  value_inside = value_inside;
  constant_sound = λ c h. grind (arith, nat_tests);
  constant_value = λ c s h l. grind (arith, nat_tests);
  followed_sound = followed_sound;
  followed_value = followed_value;
  followed_none = followed_none;
  narrowed_sound = narrowed_sound;
  narrowed_holds = narrowed_holds;
  narrowed_none = narrowed_none;
  twice = twice;
}
