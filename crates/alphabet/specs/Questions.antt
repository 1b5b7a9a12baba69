-- The answers that follow from what guards and terms mean.
use Rattle.std.specs.Prelude.{◌≡◌, ℕ, zero, suc, ◌<◌, ◌≤◌, Bool, true, false, cond, not, ◌&&◌, ◌||◌, is_some, Some, None, Option, ◌==◌}
use Rattle.alphabet.specs.Model.{Model}

-- r is the least number at or after n that passes, or there is none
abbrev pub LeastFrom : (ℕ → Bool) → ℕ → Option ℕ → Type 0
LeastFrom p n None = (s : ℕ) → n ≤ s → p s ≡ false
LeastFrom p n (Some s) = (n ≤ s) × (p s ≡ true) × ((k : ℕ) → n ≤ k → k < s → p k ≡ false)

-- r is the least number at or after n that does not pass
abbrev pub LeastOutside : (ℕ → Bool) → ℕ → ℕ → Type 0
LeastOutside p n r = (n ≤ r) × (p r ≡ false) × ((k : ℕ) → n ≤ k → k < r → p k ≡ true)

-- every number below n passes
unfoldable pub every : ℕ → (ℕ → Bool) → Bool
every zero p = true
every (suc n) p = p n && every n p

-- the value is there and is c
abbrev pub gives : Option ℕ → ℕ → Bool
gives None c = false
gives (Some x) c = x == c

-- the value is there and passes
abbrev pub lies : Option ℕ → (ℕ → Bool) → Bool
lies None p = false
lies (Some x) p = p x

module _ {G T : Type 0} (m : Model G T) where
  -- the term has a value at every symbol of the guard
  abbrev pub suits : T → G → Bool
  suits t g = every m.size (λ s. not (m.holds g s) || is_some (m.value t s))

  -- c, where the term has this value at every symbol
  abbrev pub constant_at : T → Option ℕ → Option ℕ
  constant_at t None = None
  constant_at t (Some c) = cond (every m.size (λ s. gives (m.value t s) c)) (Some c) None

  -- the one symbol that a term gives at all symbols, or none
  abbrev pub constant_of : T → Option ℕ
  constant_of t = constant_at t (m.value t 0)

  -- both guards hold the number
  abbrev pub both : G → G → ℕ → Bool
  both g h s = m.holds g s && m.holds h s

  -- the two guards share a symbol
  abbrev pub shares : G → G → Bool
  shares g h = not (every m.size (λ s. not (both g h s)))
