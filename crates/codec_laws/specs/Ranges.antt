-- Ranges of symbols and their terms as bytes.
use Rattle.std.specs.Prelude.{ℕ, Bool, cond, ◌&&◌, List, ◌∷◌, ◌++◌, Some, None, ◌==◌, nat_lt, unsigned_abs}
use Rattle.std.specs.Int.{w32}
use Rattle.std.proofs.Common.{to_z, of_z}
use Rattle.range_laws.specs.declared.Range.{Range}
use Rattle.range_laws.specs.declared.RangeTerm.{RangeTerm}
use Rattle.range_laws.specs.declared.RangeTerm.TheVariants.{Constant, Shift}
use Rattle.codec_laws.specs.Code.{Code}
use Rattle.codec_laws.specs.Numbers.{four, at, four_at}

-- the low and the high end in four bytes each
abbrev pub range_code : Code Range
range_code = record {
  width = 8;
  image = λ g. four g.low ++ four g.high;
  meaning = λ bs. record { low = four_at bs 0; high = four_at bs 4 };
  wrong = λ bs. None;
  fits = λ g. nat_lt g.low 4294967296 && nat_lt g.high 4294967296;
}

-- the tag 0 and a constant in four bytes, or the tag 1 and a shift, in two's complement
abbrev pub term_image : RangeTerm → List ℕ
term_image (Constant c) = 0 ∷ four c
term_image (Shift k) = 1 ∷ four (of_z w32 k)

abbrev pub term_fits : RangeTerm → Bool
term_fits (Constant c) = nat_lt c 4294967296
term_fits (Shift k) = nat_lt (unsigned_abs k) 2147483648

abbrev pub range_term_code : Code RangeTerm
range_term_code = record {
  width = 5;
  image = term_image;
  meaning = λ bs. cond (at bs 0 == 0) (Constant (four_at bs 1)) (Shift (to_z w32 (four_at bs 1)));
  wrong = λ bs. cond (nat_lt 1 (at bs 0)) (Some 0) None;
  fits = term_fits;
}
