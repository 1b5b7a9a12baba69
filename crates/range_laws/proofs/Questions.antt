-- Two questions about all symbols, answered from a few: whether a term suits a range, and whether it is constant.
use Rattle.std.proofs.Common.{◌≡◌, ℕ, ◌<◌, ◌≤◌, Bool, true, false, not, ◌&&◌, ◌||◌, ℤ, pos, negsuc, is_some, Some, None, Ok, refl, arith}
use Rattle.std.proofs.lemmas.Bool.Decides.{nat_tests, same_from_decides}
use Rattle.alphabet.specs.Questions.{every, suits, constant_of, gives}
use Rattle.alphabet.proofs.Bounded.{decides_every, every_fails}
use Rattle.range_laws.specs.declared.Range.{Range}
use Rattle.range_laws.specs.declared.RangeTerm.{RangeTerm}
use Rattle.range_laws.specs.declared.RangeTerm.TheVariants.{Constant, Shift}
use Rattle.range_laws.specs.Ranges.{ranges, check_range, check_term, in_range, value_at}

module _ (n : ℕ) where
  -- a term that is defined at both ends of a range is defined between them
  between : (t : RangeTerm) (g : Range) (s : ℕ) → check_range n g ≡ Ok tt → is_some (value_at n t g.low) ≡ true → is_some (value_at n t g.high) ≡ true → in_range g s ≡ true → is_some (value_at n t s) ≡ true
  between (Constant c) g s p a b h = grind (arith, nat_tests)
  between (Shift (pos k)) g s p a b h = grind (arith, nat_tests)
  between (Shift (negsuc k)) g s p a b h = grind (arith, nat_tests)

  -- the test at one symbol says that the term is defined there if the range holds it
  test_true : (b d : Bool) → (not b || d) ≡ true → b ≡ true → d ≡ true
  test_true b d h e = grind arith

  test_from : (b d : Bool) → (b ≡ true → d ≡ true) → (not b || d) ≡ true
  test_from true d f = f refl
  test_from false d f = refl

  -- a term suits a range exactly where it is defined at both ends
  pub suits_ends : (t : RangeTerm) (g : Range) → check_range n g ≡ Ok tt → (is_some (value_at n t g.low) && is_some (value_at n t g.high)) ≡ suits (ranges n) t g
  suits_ends t g p =
      let test : ℕ → Bool = λ s. not (in_range g s) || is_some (value_at n t s) in
      let low : in_range g g.low ≡ true = grind (arith, nat_tests) in
      let high : in_range g g.high ≡ true = grind (arith, nat_tests) in
      let top : g.high < n = grind (arith, nat_tests) in
      let end : g.low < n = grind (arith, nat_tests) in
      same_from_decides {P = (s : ℕ) → s < n → test s ≡ true} (is_some (value_at n t g.low) && is_some (value_at n t g.high)) (every n test) (
        λ e. λ s l. test_from (in_range g s) (is_some (value_at n t s)) (λ h. between t g s p (grind (arith, e)) (grind (arith, e)) h),
        λ f. grind (arith, test_true (in_range g g.low) (is_some (value_at n t g.low)) (f g.low end) low, test_true (in_range g g.high) (is_some (value_at n t g.high)) (f g.high top) high),
      )
      (decides_every test n)

  -- a constant is constant
  pub constant_of_constant : (c : ℕ) → 1 ≤ n → constant_of (ranges n) (Constant c) ≡ Some c
  constant_of_constant c h =
      let all = (decides_every (λ s. gives (value_at n (Constant c) s) c) n).1 (λ s l. grind (arith, nat_tests)) in
      grind (arith, nat_tests)

  -- with one symbol, a shift is constant
  pub constant_of_one : (k : ℤ) → n ≡ 1 → check_term n (Shift k) ≡ Ok tt → constant_of (ranges n) (Shift k) ≡ Some 0
  constant_of_one (pos k) h p =
      let all = (decides_every (λ s. gives (value_at n (Shift (pos k)) s) 0) n).1 (λ s l. grind (arith, nat_tests)) in
      grind (arith, nat_tests)
  constant_of_one (negsuc k) h p = grind (arith, nat_tests)

  -- with more, it is not
  pub constant_of_shift : (k : ℤ) → 2 ≤ n → constant_of (ranges n) (Shift k) ≡ None
  constant_of_shift (pos k) h =
      let one : gives (value_at n (Shift (pos k)) 1) k ≡ false = grind (arith, nat_tests) in
      let all = every_fails (λ s. gives (value_at n (Shift (pos k)) s) k) n 1 h one in
      grind (arith, nat_tests)
  constant_of_shift (negsuc k) h = grind (arith, nat_tests)
