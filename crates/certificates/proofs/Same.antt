-- The tests of equality tell equality.
use Rattle.std.proofs.Common.{◌≡◌, ℕ, true, false, List, [], ◌∷◌, Some, None, Option, refl, ap, arith}
use Rattle.std.proofs.lemmas.Bool.Decides.{nat_tests}
use Rattle.certificates.specs.Same.{same_text, same_output}
use Rattle.certificates.specs.Points.{Point, same_point}

pub same_text_lem : (x y : List ℕ) → same_text x y ≡ true → x ≡ y
unfolding same_text
same_text_lem [] [] e = refl
same_text_lem [] (b ∷ y) e = grind arith
same_text_lem (a ∷ x) [] e = grind arith
same_text_lem (a ∷ x) (b ∷ y) e = let ih = same_text_lem x y in grind (arith, nat_tests)

text_same : (x : List ℕ) → same_text x x ≡ true
unfolding same_text
text_same [] = refl
text_same (a ∷ x) = let ih = text_same x in grind (arith, nat_tests)

pub same_output_lem : (o p : Option (List ℕ)) → same_output o p ≡ true → o ≡ p
unfolding same_output
same_output_lem None None e = refl
same_output_lem None (Some y) e = grind arith
same_output_lem (Some x) None e = grind arith
same_output_lem (Some x) (Some y) e = ap Some (same_text_lem x y e)

-- and where the test fails they are not equal
pub differ_output : (o p : Option (List ℕ)) → same_output o p ≡ false → o ≡ p → ⊥
unfolding same_output
differ_output None None e f = grind arith
differ_output None (Some y) e f = grind arith
differ_output (Some x) None e f = grind arith
differ_output (Some x) (Some y) e f = let h = text_same x in grind arith

pub same_point_lem : (x y : Point) → same_point x y ≡ true → x ≡ y
unfolding same_point
same_point_lem x y e =
    let f = same_text_lem x.lag.0 y.lag.0 in
    let g = same_text_lem x.lag.1 y.lag.1 in
    grind (arith, nat_tests)
