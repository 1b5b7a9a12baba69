-- Sets of marks and their terms as bytes.
use Rattle.std.specs.Prelude.{ℕ, ◌%◌, Bool, cond, ◌&&◌, List, [], ◌∷◌, Some, None, Option, ◌==◌, nat_lt}
use Rattle.mark_laws.specs.declared.MarkSet.{MarkSet}
use Rattle.mark_laws.specs.declared.MarkTerm.{MarkTerm}
use Rattle.mark_laws.specs.declared.MarkTerm.TheVariants.{Constant, Turn}
use Rattle.codec_laws.specs.Code.{Code}
use Rattle.codec_laws.specs.Numbers.{four, eight, at, four_at, eight_at}

-- the bits in eight bytes
abbrev pub set_code : Code MarkSet
set_code = record {
  width = 8;
  image = λ g. eight g.bits;
  meaning = λ bs. record { bits = eight_at bs 0 };
  wrong = λ bs. None;
  fits = λ g. nat_lt g.bits 18446744073709551616;
}

-- the tag 0 and a constant in four bytes, or the tag 1, two bytes that are 0, the factor and the offset
abbrev pub term_image : MarkTerm → List ℕ
term_image (Constant c) = 0 ∷ four c
term_image (Turn a b) = 1 ∷ 0 ∷ 0 ∷ a % 256 ∷ b % 256 ∷ []

abbrev pub term_fits : MarkTerm → Bool
term_fits (Constant c) = nat_lt c 4294967296
term_fits (Turn a b) = nat_lt a 256 && nat_lt b 256

-- a tag above 1, or a byte of a turn that should be 0
abbrev pub term_wrong : List ℕ → Option ℕ
term_wrong bs =
    cond (at bs 0 == 0) None
    (cond (nat_lt 1 (at bs 0)) (Some 0) (cond (nat_lt 0 (at bs 1)) (Some 1) (cond (nat_lt 0 (at bs 2)) (Some 2) None)))

abbrev pub mark_term_code : Code MarkTerm
mark_term_code = record {
  width = 5;
  image = term_image;
  meaning = λ bs. cond (at bs 0 == 0) (Constant (four_at bs 1)) (Turn (at bs 3) (at bs 4));
  wrong = term_wrong;
  fits = term_fits;
}
