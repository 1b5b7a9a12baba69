-- Numbers as bytes, the highest byte first.
use Rattle.std.specs.Prelude.{ℕ, ◌+◌, ◌*◌, ◌/◌, ◌%◌, List, [], ◌∷◌, slice_index}

-- the lowest two, four and eight bytes of a number
abbrev pub two : ℕ → List ℕ
two n = n / 256 % 256 ∷ n % 256 ∷ []

abbrev pub four : ℕ → List ℕ
four n = n / 16777216 % 256 ∷ n / 65536 % 256 ∷ n / 256 % 256 ∷ n % 256 ∷ []

abbrev pub eight : ℕ → List ℕ
eight n =
    n / 72057594037927936 % 256
    ∷ n / 281474976710656 % 256
    ∷ n / 1099511627776 % 256
    ∷ n / 4294967296 % 256
    ∷ n / 16777216 % 256
    ∷ n / 65536 % 256
    ∷ n / 256 % 256
    ∷ n % 256
    ∷ []

-- the byte at a place
abbrev pub at : List ℕ → ℕ → ℕ
at bs k = slice_index bs k

-- the number that two, four and eight bytes from a place on mean
abbrev pub two_at : List ℕ → ℕ → ℕ
two_at bs k = at bs k * 256 + at bs (k + 1)

abbrev pub four_at : List ℕ → ℕ → ℕ
four_at bs k = at bs k * 16777216 + at bs (k + 1) * 65536 + at bs (k + 2) * 256 + at bs (k + 3)

abbrev pub eight_at : List ℕ → ℕ → ℕ
eight_at bs k =
    at bs k * 72057594037927936
    + at bs (k + 1) * 281474976710656
    + at bs (k + 2) * 1099511627776
    + at bs (k + 3) * 4294967296
    + at bs (k + 4) * 16777216
    + at bs (k + 5) * 65536
    + at bs (k + 6) * 256
    + at bs (k + 7)
