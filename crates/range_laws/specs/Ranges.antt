-- What ranges and their terms mean in an alphabet of n symbols.
use Rattle.std.specs.Prelude.{ℕ, ◌+◌, ◌-◌, min, max, Bool, cond, ◌&&◌, ℤ, pos, negsuc, ◌+ℤ◌, Some, None, Ok, Err, Option, Result, nat_le, nat_lt, unsigned_abs}
use Rattle.alphabet.specs.declared.cause.Cause.{Cause}
use Rattle.alphabet.specs.declared.cause.Cause.TheVariants.{NoSymbols, BeyondSize, OutOfBounds}
use Rattle.alphabet.specs.Model.{Model}
use Rattle.range_laws.specs.declared.Range.{Range}
use Rattle.range_laws.specs.declared.RangeTerm.{RangeTerm}
use Rattle.range_laws.specs.declared.RangeTerm.TheVariants.{Constant, Shift}

-- a size between 1 and 2,097,152; a number outside is taken for the nearer end
abbrev pub clamped : ℕ → ℕ
clamped n = max 1 (min n 2097152)

-- the low end may not lie above the high one, and the high one has to be a symbol
abbrev pub check_range : ℕ → Range → Result Unit Cause
check_range n g = cond (nat_lt g.high g.low) (Err NoSymbols) (cond (nat_lt g.high n) (Ok tt) (Err BeyondSize))

abbrev pub in_range : Range → ℕ → Bool
in_range g s = nat_le g.low s && nat_le s g.high

-- a constant is a symbol, a shift lies between −(n − 1) and n − 1
abbrev pub check_term : ℕ → RangeTerm → Result Unit Cause
check_term n (Constant c) = cond (nat_lt c n) (Ok tt) (Err OutOfBounds)
check_term n (Shift k) = cond (nat_lt (unsigned_abs k) n) (Ok tt) (Err OutOfBounds)

-- the number, where it is a symbol
abbrev pub symbol_at : ℕ → ℤ → Option ℕ
symbol_at n (pos x) = cond (nat_lt x n) (Some x) None
symbol_at n (negsuc x) = None

-- there is no value at a number that is no symbol
abbrev pub value_at : ℕ → RangeTerm → ℕ → Option ℕ
value_at n (Constant c) s = cond (nat_lt s n) (Some c) None
value_at n (Shift k) s = cond (nat_lt s n) (symbol_at n (pos s +ℤ k)) None

-- the constant of a value, where there is one
abbrev pub constant_from : Option ℕ → Option RangeTerm
constant_from None = None
constant_from (Some c) = Some (Constant c)

-- the sum of two shifts, where it is one
abbrev pub sum_of : ℕ → ℤ → ℤ → Option RangeTerm
sum_of n j k = cond (nat_lt (unsigned_abs (j +ℤ k)) n) (Some (Shift (j +ℤ k))) None

-- constants swallow what comes before and are changed by what comes after; shifts add up
abbrev pub followed_by : ℕ → RangeTerm → RangeTerm → Option RangeTerm
followed_by n (Constant c) u = constant_from (value_at n u c)
followed_by n (Shift j) (Constant d) = Some (Constant d)
followed_by n (Shift j) (Shift k) = sum_of n j k

-- the range from low to high, if there is one
abbrev pub range_of : ℕ → ℕ → Option Range
range_of low high = cond (nat_le low high) (Some (record { low = low; high = high })) None

-- the symbols of g that a shift takes into h: those of g that lie in h moved back by the shift
abbrev pub shifted_into_lem : Range → ℤ → Range → Option Range
shifted_into_lem g (pos k) h = cond (nat_le k h.high) (range_of (max g.low (h.low - k)) (min g.high (h.high - k))) None
shifted_into_lem g (negsuc k) h = range_of (max g.low (h.low + (k + 1))) (min g.high (h.high + (k + 1)))

abbrev pub narrowed_to : Range → RangeTerm → Range → Option Range
narrowed_to g (Constant c) h = cond (in_range h c) (Some g) None
narrowed_to g (Shift k) h = shifted_into_lem g k h

abbrev pub ranges : ℕ → Model Range RangeTerm
ranges n = record {
  size = n;
  check_guard = check_range n;
  holds = in_range;
  check_term = check_term n;
  value = value_at n;
  constant = Constant;
  followed = followed_by n;
  narrowed = narrowed_to;
}
