-- Tests over all numbers below a bound, and what they tell.
use Rattle.std.proofs.Common.{◌≡◌, ℕ, ◌<◌, Bool, true, false, Decides, refl, arith}
use Rattle.std.proofs.lemmas.Bool.Decides.{Decides-below_and}
use Rattle.std.proofs.lemmas.Bool.{cases_Bool}
use Rattle.alphabet.specs.Questions.{every}

-- `every` decides that each number below the bound passes
pub decides_every : (p : ℕ → Bool) (n : ℕ) → Decides (every n p) ((k : ℕ) → k < n → p k ≡ true)
unfolding every
decides_every p n = Decides-below_and p (λ k. p k ≡ true) (λ k. every k p) (λ k. (λ e. e, λ e. e)) refl (λ _. refl) n

-- one number that does not pass is enough
pub every_fails : (p : ℕ → Bool) (n k : ℕ) → k < n → p k ≡ false → every n p ≡ false
every_fails p n k h e = let d = decides_every p n in grind (arith, d.0, d.1, cases_Bool)
