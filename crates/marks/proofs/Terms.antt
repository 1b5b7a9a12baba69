-- What the questions that go over all marks come to: whether a term suits a guard, and whether it is constant.
use Rattle.std.proofs.Common.{◌≡◌, ℕ, ◌+◌, ◌*◌, ◌%◌, ◌<◌, true, not, ◌||◌, is_some, Some, None, arith}
use Rattle.std.proofs.lemmas.Bool.Decides.{nat_tests}
use Rattle.alphabet.specs.Model.{SoundTerm}
use Rattle.alphabet.specs.Questions.{gives, suits, constant_of}
use Rattle.alphabet.proofs.Bounded.{decides_every, every_fails}
use Rattle.mark_laws.specs.declared.MarkSet.{MarkSet}
use Rattle.mark_laws.specs.declared.MarkTerm.{MarkTerm}
use Rattle.mark_laws.specs.declared.MarkTerm.TheVariants.{Constant, Turn}
use Rattle.mark_laws.specs.Marks.{marks, in_set, value_at}
use Rattle.mark_laws.proofs.Prime.{turn_apart}

-- a term has a value at every mark
value_there : (t : MarkTerm) (s : ℕ) → s < 37 → is_some (value_at t s) ≡ true
value_there (Constant c) s h = grind (arith, nat_tests)
value_there (Turn a b) s h = grind (arith, nat_tests)

pub suits_all : (t : MarkTerm) (g : MarkSet) → suits marks t g ≡ true
suits_all t g = (decides_every (λ s. not (in_set g s) || is_some (value_at t s)) 37).1 (λ k h. grind (arith, nat_tests, value_there t k h))

constant_given : (c : ℕ) → Some c ≡ constant_of marks (Constant c)
constant_given c =
    let e = (decides_every (λ s. gives (value_at (Constant c) s) c) 37).1 (λ k h. grind (arith, nat_tests)) in
    grind (arith, nat_tests)

-- a turn gives different marks at 0 and 1
turn_given : (a b : ℕ) → SoundTerm marks (Turn a b) → None ≡ constant_of marks (Turn a b)
turn_given a b h =
    let low : 0 < a = grind (arith, nat_tests) in
    let high : a < 37 = grind (arith, nat_tests) in
    let ne = turn_apart a b 1 0 low high (omega arith) (omega arith) in
    let e = every_fails (λ s. gives (value_at (Turn a b) s) ((a * 0 + b) % 37)) 37 1 (omega arith) (grind (arith, nat_tests)) in
    grind (arith, nat_tests)

pub constant_of_constant : (t : MarkTerm) (c : ℕ) → t ≡ Constant c → Some c ≡ constant_of marks t
constant_of_constant t c e = rw e (constant_given c)

pub constant_of_turn : (t : MarkTerm) (a b : ℕ) → t ≡ Turn a b → SoundTerm marks t → None ≡ constant_of marks t
constant_of_turn t a b e h = rw e (turn_given a b (rw e at h))
