-- Which alphabet a file is of, and the number and place of each fault.
use Rattle.std.specs.Prelude.{ℕ, cond, List, [], ◌∷◌, ◌++◌, length, Ok, Err, Result, ◌==◌, nat_le}
use Rattle.std.specs.Fmt.{decimal}
use Rattle.shelve_input.specs.declared.Kind.{Kind}
use Rattle.shelve_input.specs.declared.Kind.TheVariants.{Bytes, CodePoints, Marks}
use Rattle.shelve_input.specs.declared.InputFault.{InputFault}
use Rattle.shelve_input.specs.declared.InputFault.TheVariants.{TooLong, CutShort, NoAlphabet}
use Rattle.shelve_input.specs.declared.InputCode.{InputCode}

abbrev pub code_of : InputFault → InputCode
code_of TooLong = record { number = 3; place = 2 }
code_of (CutShort n) = record { number = 17; place = n }
code_of NoAlphabet = record { number = 18; place = 0 }

-- a code as it is printed: the number, a space, the place
abbrev pub code_text : InputCode → List ℕ
code_text c = decimal c.number ++ (32 ∷ decimal c.place)

-- 1 names bytes, 2 code points, 3 marks
abbrev pub named : ℕ → Result Kind InputFault
named b = cond (b == 1) (Ok Bytes) (cond (b == 2) (Ok CodePoints) (cond (b == 3) (Ok Marks) (Err NoAlphabet)))

-- by the first byte of at least two
abbrev front : List ℕ → Result Kind InputFault
front [] = Err (CutShort 0)
front (a ∷ []) = Err (CutShort 1)
front (a ∷ (b ∷ rest)) = named a

-- of at most 16,384 bytes
abbrev pub kind_of_lem : List ℕ → Result Kind InputFault
kind_of_lem file = cond (nat_le (length file) 16384) (front file) (Err TooLong)
