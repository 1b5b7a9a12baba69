-- What the guards and terms of an alphabet mean.
use Rattle.std.specs.Prelude.{◌≡◌, ℕ, Bool, Ok, Option, Result}
use Rattle.alphabet.specs.declared.cause.Cause.{Cause}

-- An alphabet with guards G and terms T. Its symbols are the numbers below the size. A guard means a set of symbols, a
-- term a function from some symbols to symbols. The last three choose a guard or a term among those of equal meaning.
pub record Model (G T : Type 0) : Type 0 where
  pub size : ℕ
  -- Ok, or the lowest cause by which a guard is unsound
  pub check_guard : G → Result Unit Cause
  -- whether a sound guard holds a number
  pub holds : G → ℕ → Bool
  -- Ok, or the cause by which a term is unsound
  pub check_term : T → Result Unit Cause
  -- the value of a sound term at a number, or none
  pub value : T → ℕ → Option ℕ
  -- the term that has this symbol as its value everywhere
  pub constant : ℕ → T
  -- a term that does what the first does and then the second, or none
  pub followed : T → T → Option T
  -- the part of a guard whose values under a term lie in a second guard, or none
  pub narrowed : G → T → G → Option G

abbrev pub SoundGuard : {G T : Type 0} → Model G T → G → Type 0
SoundGuard m g = m.check_guard g ≡ Ok tt

abbrev pub SoundTerm : {G T : Type 0} → Model G T → T → Type 0
SoundTerm m t = m.check_term t ≡ Ok tt
