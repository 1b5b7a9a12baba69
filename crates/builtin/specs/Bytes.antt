-- The tables of the filters over bytes, and what they do.
use Rattle.std.specs.Prelude.{◌≡◌, ℕ, ◌+◌, Bool, true, cond, ◌&&◌, List, [], ◌∷◌, pos, Some, None, ◌==◌, nat_le, nat_lt}
use Rattle.std.specs.List.{flat_map}
use Rattle.machine.specs.Machine.{transduced}
use Rattle.range_laws.specs.declared.Range.{Range}
use Rattle.range_laws.specs.declared.RangeTerm.{RangeTerm}
use Rattle.range_laws.specs.declared.RangeTerm.TheVariants.{Constant, Shift}
use Rattle.range_laws.specs.Ranges.{ranges}
use Rattle.filter.specs.Machines.{machine_of}
use Rattle.table.specs.declared.entries.State.{State}
use Rattle.table.specs.declared.entries.Rule.{Rule}
use Rattle.table.specs.Table.{Table}

-- a rule of state 0 that stays there
abbrev rule : ℕ → ℕ → ℕ → Rule Range
rule low high outputs = record { state = 0; next = 0; outputs = outputs; guard = record { low = low; high = high } }

-- a state that accepts and writes nothing at the end
abbrev accepting : State
accepting = record { mark = 1; finals = 0 }

abbrev copied : RangeTerm
copied = Shift (pos 0)

-- `&amp;` for an ampersand, every other byte copied
abbrev pub escape_table : Table Range RangeTerm
escape_table = record {
  states = accepting ∷ [];
  rules = rule 0 37 1 ∷ (rule 38 38 5 ∷ (rule 39 255 1 ∷ []));
  outputs = copied ∷ (Constant 38 ∷ (Constant 97 ∷ (Constant 109 ∷ (Constant 112 ∷ (Constant 59 ∷ (copied ∷ []))))));
}

-- small letters for capitals, every other byte copied
abbrev pub lower_table : Table Range RangeTerm
lower_table = record {
  states = accepting ∷ [];
  rules = rule 0 64 1 ∷ (rule 65 90 1 ∷ (rule 91 255 1 ∷ []));
  outputs = copied ∷ (Shift (pos 32) ∷ (copied ∷ []));
}

-- printable ASCII copied, nothing else held
abbrev pub ascii_table : Table Range RangeTerm
ascii_table = record { states = accepting ∷ []; rules = rule 32 126 1 ∷ []; outputs = copied ∷ [] }

-- `&amp;` for an ampersand
abbrev pub escaped : ℕ → List ℕ
escaped s = cond (s == 38) (38 ∷ (97 ∷ (109 ∷ (112 ∷ (59 ∷ []))))) (s ∷ [])

-- the small letter for a capital
abbrev pub lowered : ℕ → List ℕ
lowered s = cond (nat_le 65 s && nat_le s 90) ((s + 32) ∷ []) (s ∷ [])

-- the symbol itself
abbrev pub same : ℕ → List ℕ
same s = s ∷ []

abbrev pub is_byte : ℕ → Bool
is_byte s = nat_lt s 256

abbrev pub is_printable : ℕ → Bool
is_printable s = nat_le 32 s && nat_le s 126

-- every symbol of the text passes
abbrev pub all_of : (ℕ → Bool) → List ℕ → Bool
all_of p [] = true
all_of p (s ∷ u) = p s && all_of p u

-- the filter writes f of each symbol for a text whose symbols all pass, and rejects every other text
abbrev pub Maps : Table Range RangeTerm → (ℕ → Bool) → (ℕ → List ℕ) → Type 0
Maps F p f = (u : List ℕ) → transduced (machine_of (ranges 256) F) u ≡ cond (all_of p u) (Some (flat_map f u)) None
