-- As many things as there are places, at most, where no two share a place.
use Rattle.std.proofs.Common.{◌≡◌, ℕ, zero, suc, ◌<◌, ◌≤◌, cond, eqb, arith}

-- m things with places below n, no two at one place: there are at most n
pub pigeon : (n m : ℕ) (f : ℕ → ℕ) → ((i : ℕ) → i < m → f i < n)
    → ((i j : ℕ) → i < m → j < m → f i ≡ f j → i ≡ j) → m ≤ n
pigeon zero zero f below apart = omega arith
pigeon zero (suc m) f below apart = let h = below m (omega arith) in absurd (omega arith)
pigeon (suc n) zero f below apart = omega arith
pigeon (suc n) (suc m) f below apart =
    let ih = pigeon n m (λ i. cond (eqb (f i) n) (f m) (f i)) lower distinct in omega arith
  where
    -- the last thing's place is given to the one at the last place
    lower : (i : ℕ) → i < m → cond (eqb (f i) n) (f m) (f i) < n
    lower i h =
        let k = below i (omega arith) in
        let l = below m (omega arith) in
        let o = apart i m (omega arith) (omega arith) in grind arith

    -- which leaves the others apart
    distinct : (i j : ℕ) → i < m → j < m → cond (eqb (f i) n) (f m) (f i) ≡ cond (eqb (f j) n) (f m) (f j) → i ≡ j
    distinct i j h k e =
        let o = apart i m (omega arith) (omega arith) in
        let p = apart j m (omega arith) (omega arith) in
        let q = apart i j (omega arith) (omega arith) in grind arith
