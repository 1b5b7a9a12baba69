-- The filters over bytes that the cases speak of.
use Rattle.std.specs.Prelude.{ℕ, List, [], ◌∷◌, pos, Some, None, Option}
use Rattle.alphabet.specs.Model.{Model}
use Rattle.range_laws.specs.declared.Range.{Range}
use Rattle.range_laws.specs.declared.RangeTerm.{RangeTerm}
use Rattle.range_laws.specs.declared.RangeTerm.TheVariants.{Constant, Shift}
use Rattle.range_laws.specs.Ranges.{ranges, clamped}
use Rattle.table.specs.Table.{Table}
use Rattle.join_laws.specs.Lines.{Line, table_from}

-- the alphabet of 256 symbols
abbrev pub bytes : Model Range RangeTerm
bytes = ranges (clamped 256)

-- a rule from one state to another, on the bytes from low to high, with its outputs
abbrev line : ℕ → ℕ → ℕ → ℕ → List RangeTerm → Line Range RangeTerm
line state next low high outputs = record { state = state; next = next; guard = record { low = low; high = high }; outputs = outputs }

-- a rule of state 0 that stays there
abbrev stay : ℕ → ℕ → List RangeTerm → Line Range RangeTerm
stay low high outputs = line 0 0 low high outputs

-- the byte read, and the byte k places on
abbrev copied : List RangeTerm
copied = Shift (pos 0) ∷ []

abbrev moved : ℕ → List RangeTerm
moved k = Shift (pos k) ∷ []

-- the filter with these final outputs, by state, and these rules
abbrev filter : List (Option (List ℕ)) → List (Line Range RangeTerm) → Table Range RangeTerm
filter finals lines = table_from bytes finals lines

-- a filter with one state, which accepts and writes nothing at the end
abbrev plain : List (Line Range RangeTerm) → Table Range RangeTerm
plain lines = filter (Some [] ∷ []) lines

-- every byte is copied
abbrev pub copy : Table Range RangeTerm
copy = plain (stay 0x00 0xff copied ∷ [])

-- `&amp;` for an ampersand, every other byte copied
abbrev pub escape : Table Range RangeTerm
escape =
    plain (stay 0x00 0x25 copied
    ∷ (stay 0x26 0x26 (Constant 0x26 ∷ (Constant 0x61 ∷ (Constant 0x6d ∷ (Constant 0x70 ∷ (Constant 0x3b ∷ [])))))
    ∷ (stay 0x27 0xff copied ∷ [])))

-- small letters for capitals, every other byte copied
abbrev pub lower : Table Range RangeTerm
lower = plain (stay 0x00 0x40 copied ∷ (stay 0x41 0x5a (moved 32) ∷ (stay 0x5b 0xff copied ∷ [])))

-- the letter `a` copied, nothing else held
abbrev pub prompt : Table Range RangeTerm
prompt = plain (stay 0x61 0x61 copied ∷ [])

-- the same one letter late: the first is kept back until the end
abbrev pub late : Table Range RangeTerm
late = filter (Some [] ∷ (Some (0x61 ∷ []) ∷ [])) (line 0 1 0x61 0x61 [] ∷ (line 1 1 0x61 0x61 copied ∷ []))

-- `a` for `a` and `b`, and both copied
abbrev pub only_a : Table Range RangeTerm
only_a = plain (stay 0x61 0x62 (Constant 0x61 ∷ []) ∷ [])

abbrev pub both_copied : Table Range RangeTerm
both_copied = plain (stay 0x61 0x62 copied ∷ [])

-- `x` for `a` or these outputs for `b`, then nothing for `c`; only the last of the three states accepts
abbrev pub forked : List RangeTerm → Table Range RangeTerm
forked outputs =
    filter (None ∷ (None ∷ (Some [] ∷ [])))
    (line 0 1 0x61 0x61 (Constant 0x78 ∷ []) ∷ (line 0 1 0x62 0x62 outputs ∷ (line 1 2 0x63 0x63 [] ∷ [])))

-- the outputs `x` and `xx`
abbrev pub one_x : List RangeTerm
one_x = Constant 0x78 ∷ []

abbrev pub two_x : List RangeTerm
two_x = Constant 0x78 ∷ (Constant 0x78 ∷ [])

-- every byte is copied, and an exclamation mark written at the end
abbrev pub exclaim : Table Range RangeTerm
exclaim = filter (Some (0x21 ∷ []) ∷ []) (stay 0x00 0xff copied ∷ [])

-- the bytes from C0 to the high one moved 32 places on
abbrev pub moved_to : ℕ → Table Range RangeTerm
moved_to high = plain (stay 0xc0 high (moved 32) ∷ [])
