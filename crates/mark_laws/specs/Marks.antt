-- What sets of marks and their terms mean. Marks follow ISO/IEC 7064, MOD 37-2: 37 symbols with the values 0 to 36.
use Rattle.std.specs.Prelude.{ℕ, zero, suc, ◌+◌, ◌*◌, ◌/◌, ◌%◌, ◌^◌, Bool, cond, ◌&&◌, Some, None, Ok, Err, Option, Result, ◌==◌, nat_lt}
use Rattle.alphabet.specs.declared.cause.Cause.{Cause}
use Rattle.alphabet.specs.declared.cause.Cause.TheVariants.{NoSymbols, BeyondSize, OutOfBounds}
use Rattle.alphabet.specs.Model.{Model}
use Rattle.alphabet.specs.Questions.{lies}
use Rattle.mark_laws.specs.declared.MarkSet.{MarkSet}
use Rattle.mark_laws.specs.declared.MarkTerm.{MarkTerm}
use Rattle.mark_laws.specs.declared.MarkTerm.TheVariants.{Constant, Turn}

-- whether bit s of a number is 1
unfoldable pub bit : ℕ → ℕ → Bool
bit n s = n / 2 ^ s % 2 == 1

-- the number whose bits below n are those that pass, and whose other bits are 0
unfoldable pub bits_of : ℕ → (ℕ → Bool) → ℕ
bits_of zero p = 0
bits_of (suc n) p = cond (p n) (2 ^ n) 0 + bits_of n p

-- a set has some bit, and none from 37 on
abbrev pub check_set : MarkSet → Result Unit Cause
check_set g = cond (g.bits == 0) (Err NoSymbols) (cond (nat_lt g.bits (2 ^ 37)) (Ok tt) (Err BeyondSize))

-- no set holds a number from 37 on
abbrev pub in_set : MarkSet → ℕ → Bool
in_set g s = nat_lt s 37 && bit g.bits s

-- a constant is a mark; a factor is a mark but 0, so that a turn gives different marks at different ones
abbrev pub check_term : MarkTerm → Result Unit Cause
check_term (Constant c) = cond (nat_lt c 37) (Ok tt) (Err OutOfBounds)
check_term (Turn a b) = cond (nat_lt 0 a && (nat_lt a 37 && nat_lt b 37)) (Ok tt) (Err OutOfBounds)

-- there is no value at a number from 37 on
abbrev pub value_at : MarkTerm → ℕ → Option ℕ
value_at (Constant c) s = cond (nat_lt s 37) (Some c) None
value_at (Turn a b) s = cond (nat_lt s 37) (Some ((a * s + b) % 37)) None

-- the constant of a value, where there is one
abbrev pub constant_from : Option ℕ → Option MarkTerm
constant_from None = None
constant_from (Some c) = Some (Constant c)

-- constants swallow what comes before and are changed by what comes after; turns make a turn
abbrev pub followed_by : MarkTerm → MarkTerm → Option MarkTerm
followed_by (Constant c) u = constant_from (value_at u c)
followed_by (Turn a b) (Constant d) = Some (Constant d)
followed_by (Turn a b) (Turn c d) = Some (Turn (a * c % 37) ((b * c + d) % 37))

-- g holds the number, and h its value
abbrev pub goes_into_lem : MarkSet → MarkTerm → MarkSet → ℕ → Bool
goes_into_lem g t h s = in_set g s && lies (value_at t s) (in_set h)

-- the set with these bits, if there is one
abbrev pub set_of : ℕ → Option MarkSet
set_of n = cond (n == 0) None (Some (record { bits = n }))

abbrev pub narrowed_to : MarkSet → MarkTerm → MarkSet → Option MarkSet
narrowed_to g t h = set_of (bits_of 37 (goes_into_lem g t h))

abbrev pub marks : Model MarkSet MarkTerm
marks = record {
  size = 37;
  check_guard = check_set;
  holds = in_set;
  check_term = check_term;
  value = value_at;
  constant = Constant;
  followed = followed_by;
  narrowed = narrowed_to;
}
