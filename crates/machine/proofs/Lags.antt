-- The lag of two outputs: it decides which endings make them equal, and those endings decide it.
use Rattle.std.proofs.Common.{◌≡◌, ℕ, ◌-◌, List, [], ◌∷◌, ◌++◌, length, take, sym, refl, ap, ◌∙◌, arith, length-append}
use lib.Seq.{take-append_seam}
use Rattle.machine.specs.Lag.{lag}

-- endings that make the outputs equal make the lag's sides equal
pub lag_to : (x y v w : List ℕ) → x ++ v ≡ y ++ w → (lag x y).0 ++ v ≡ (lag x y).1 ++ w
unfolding lag
lag_to [] y v w e = e
lag_to (a ∷ x) [] v w e = e
lag_to (a ∷ x) (b ∷ y) v w e = let ih = lag_to x y v w in grind arith

-- endings that make the lag's sides equal make the outputs equal
pub lag_from : (x y v w : List ℕ) → (lag x y).0 ++ v ≡ (lag x y).1 ++ w → x ++ v ≡ y ++ w
unfolding lag
lag_from [] y v w e = e
lag_from (a ∷ x) [] v w e = e
lag_from (a ∷ x) (b ∷ y) v w e = let ih = lag_from x y v w in grind arith

-- what one ending has more than the other, where it is known to be y
overhang : (y v w : List ℕ) → v ≡ y ++ w
    → (take (length w - length v) w ≡ []) × (take (length v - length w) v ≡ y)
overhang y v w e =
    let l = length-append y w in
    let k = ap length e in
    let none : length w - length v ≡ 0 = omega arith in
    let some : length v - length w ≡ length y = omega arith in
    (rw none, rw (some, e, take-append_seam y w))

-- the lag is what each ending has more than the other
pub lag_of_lem : (x y v w : List ℕ) → x ++ v ≡ y ++ w
    → lag x y ≡ (take (length w - length v) w, take (length v - length w) v)
unfolding lag
lag_of_lem [] y v w e = let h = overhang y v w e in cc
lag_of_lem (a ∷ x) [] v w e = let h = overhang (a ∷ x) w v (sym e) in cc
lag_of_lem (a ∷ x) (b ∷ y) v w e = let ih = lag_of_lem x y v w in grind arith

-- outputs with one lag become equal by the same endings
pub lag_same : (x y x' y' : List ℕ) → lag x y ≡ lag x' y' → (v w : List ℕ) → x ++ v ≡ y ++ w → x' ++ v ≡ y' ++ w
lag_same x y x' y' same v w e = lag_from x' y' v w (rw same at (lag_to x y v w e))

-- endings that make two pairs of outputs equal show that their lags are one
pub lag_only : (x y x' y' v w : List ℕ) → x ++ v ≡ y ++ w → x' ++ v ≡ y' ++ w → lag x y ≡ lag x' y'
lag_only x y x' y' v w e f = lag_of_lem x y v w e ∙ sym (lag_of_lem x' y' v w f)

-- the lag goes on from the lag: what was stripped plays no part
pub lag_more : (x y w z : List ℕ) → lag (x ++ w) (y ++ z) ≡ lag ((lag x y).0 ++ w) ((lag x y).1 ++ z)
unfolding lag
lag_more [] y w z = refl
lag_more (a ∷ x) [] w z = refl
lag_more (a ∷ x) (b ∷ y) w z = let ih = lag_more x y w z in grind arith
