-- What every alphabet shows of its model.
use Rattle.std.specs.Prelude.{◌≡◌, ℕ, ◌<◌, ◌≤◌, true, false, ◌&&◌, ◌⊎◌, Some, None, Err, ◌≢◌}
use Rattle.alphabet.specs.declared.cause.Cause.{Cause}
use Rattle.alphabet.specs.declared.cause.Cause.TheVariants.{NoSymbols, BeyondSize, OutOfBounds}
use Rattle.alphabet.specs.Model.{Model, SoundGuard, SoundTerm}
use Rattle.alphabet.specs.Questions.{lies}

pub record Lawful {G T : Type 0} (m : Model G T) : Type 0 where
  -- there are 1 to 2,097,152 symbols
  pub size_low : 1 ≤ m.size
  pub size_high : m.size ≤ 2097152
  -- a sound guard holds some number, and only symbols
  pub guard_some : (g : G) → SoundGuard m g → (s : ℕ) × (m.holds g s ≡ true)
  pub guard_inside : (g : G) (s : ℕ) → SoundGuard m g → m.holds g s ≡ true → s < m.size
  -- an unsound guard has one of the first two causes, an unsound term the third
  pub guard_cause : (g : G) (c : Cause) → m.check_guard g ≡ Err c → (c ≡ NoSymbols) ⊎ (c ≡ BeyondSize)
  pub term_cause : (t : T) (c : Cause) → m.check_term t ≡ Err c → c ≡ OutOfBounds
  -- a sound term has values only at symbols, and only symbols as values
  pub value_at_lem : (t : T) (s x : ℕ) → SoundTerm m t → m.value t s ≡ Some x → s < m.size
  pub value_inside : (t : T) (s x : ℕ) → SoundTerm m t → m.value t s ≡ Some x → x < m.size
  -- the constant term of a symbol is sound and has that value at every symbol
  pub constant_sound : (c : ℕ) → c < m.size → SoundTerm m (m.constant c)
  pub constant_value : (c s : ℕ) → c < m.size → s < m.size → m.value (m.constant c) s ≡ Some c
  -- one term followed by another: sound, and the value of the second at the value of the first wherever both are
  -- defined; none only where they nowhere are
  pub followed_sound : (t u v : T) → SoundTerm m t → SoundTerm m u → m.followed t u ≡ Some v → SoundTerm m v
  pub followed_value : (t u v : T) (s x y : ℕ) → SoundTerm m t → SoundTerm m u → m.followed t u ≡ Some v → m.value t s ≡ Some x → m.value u x ≡ Some y → m.value v s ≡ Some y
  pub followed_none : (t u : T) (s x : ℕ) → SoundTerm m t → SoundTerm m u → m.followed t u ≡ None → m.value t s ≡ Some x → m.value u x ≡ None
  -- a narrowed guard: sound, and it holds exactly the numbers of the guard whose values lie in the second; none only
  -- where no value does
  pub narrowed_sound : (g h k : G) (t : T) → SoundGuard m g → SoundTerm m t → SoundGuard m h → m.narrowed g t h ≡ Some k → SoundGuard m k
  pub narrowed_holds : (g h k : G) (t : T) (s : ℕ) → SoundGuard m g → SoundTerm m t → SoundGuard m h → m.narrowed g t h ≡ Some k → m.holds k s ≡ (m.holds g s && lies (m.value t s) (m.holds h))
  pub narrowed_none : (g h : G) (t : T) (s : ℕ) → SoundGuard m g → SoundTerm m t → SoundGuard m h → m.narrowed g t h ≡ None → (m.holds g s && lies (m.value t s) (m.holds h)) ≡ false
  -- the law: two sound terms with equal values at two different symbols have equal values wherever both have one
  pub twice : (t u : T) (a b s x y z w : ℕ) → SoundTerm m t → SoundTerm m u → (a ≢ b) → m.value t a ≡ Some x → m.value u a ≡ Some x → m.value t b ≡ Some y → m.value u b ≡ Some y → m.value t s ≡ Some z → m.value u s ≡ Some w → z ≡ w
