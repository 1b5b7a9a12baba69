-- The characters of the marks: the digits are 0 to 9, the letters from A to Z are 10 to 35, and the star is 36.
use Rattle.std.specs.Prelude.{ℕ, ◌+◌, ◌-◌, cond, ◌&&◌, Some, None, Option, ◌==◌, nat_le, nat_lt}

abbrev pub letter_of : ℕ → Option ℕ
letter_of n = cond (nat_lt n 10) (Some (48 + n)) (cond (nat_lt n 36) (Some (55 + n)) (cond (n == 36) (Some 42) None))

abbrev pub mark_of : ℕ → Option ℕ
mark_of b =
    cond (nat_le 48 b && nat_le b 57) (Some (b - 48))
    (cond (nat_le 65 b && nat_le b 90) (Some (b - 55))
    (cond (b == 42) (Some 36) None))
