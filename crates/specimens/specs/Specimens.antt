-- What the definitions say of the filters, case by case. `Decided` with a text says that the two filters differ at it, and
-- at no earlier one.
use Rattle.std.specs.Prelude.{◌≡◌, [], ◌∷◌, Some, Err}
use Rattle.std.specs.List.{AllByRecursion}
use Rattle.alphabet.specs.Causes.{cause_number}
use Rattle.alphabet.specs.declared.cause.Cause.TheVariants.{NotSuiting}
use Rattle.table.specs.declared.fault.TableFault.TheVariants.{UnsoundOutput}
use Rattle.table.specs.Check.{checked}
use Rattle.table.specs.Faults.{code_of}
use Rattle.table.specs.Sound.{Sound}
use Rattle.filter.specs.Meaning.{Writes, Equivalent}
use Rattle.equivalence.specs.Decided.{Decided}
use Rattle.join_laws.specs.Joined.{joined}
use Rattle.mark_laws.specs.Marks.{marks}
use Rattle.specimens.specs.Bytes.{bytes, copy, escape, lower, prompt, late, only_a, both_copied, forked, one_x, two_x, exclaim, moved_to}
use Rattle.specimens.specs.Filters.{byte_filters, mark_filters}
use Rattle.specimens.specs.Marks.{turned}

pub record Specimens : Type 0 where
  -- the filters compared below are sound
  pub bytes_sound : AllByRecursion (Sound bytes) byte_filters
  pub marks_sound : AllByRecursion (Sound marks) mark_filters
  -- an ampersand is escaped
  pub escapes : Writes bytes escape (0x26 ∷ []) (0x26 ∷ (0x61 ∷ (0x6d ∷ (0x70 ∷ (0x3b ∷ [])))))
  -- escaping and copying differ first at an ampersand
  pub escape_copy : Decided bytes escape copy (Some (0x26 ∷ []))
  -- escaping twice and escaping once differ first at an ampersand
  pub escape_twice : Decided bytes (joined bytes escape escape) escape (Some (0x26 ∷ []))
  -- small letters twice is small letters
  pub lower_twice : Equivalent bytes (joined bytes lower lower) lower
  -- a letter may be written one letter late
  pub late_same : Equivalent bytes prompt late
  -- a constant and a copy can agree at the first symbol of a range and differ at the second
  pub constant_copy : Decided bytes only_a both_copied (Some (0x62 ∷ []))
  -- two texts lead to one pair of states, and the outputs differ after the second alone
  pub second_visit : Decided bytes (forked two_x) (forked one_x) (Some (0x62 ∷ (0x63 ∷ [])))
  -- a final output is enough to differ, at the empty text
  pub final_output : Decided bytes exclaim copy (Some [])
  -- a turn of the marks and the turn back copy
  pub turned_back : Equivalent marks (joined marks (turned 2 1) (turned 19 18)) (turned 1 0)
  -- a shift by 32 suits the bytes up to DF
  pub moved_sound : Sound bytes (moved_to 0xdf)
  -- but not E0: fault 10 at output 0, with the fourth cause
  pub moved_too_far : checked bytes (moved_to 0xe0) ≡ Err (UnsoundOutput 0 NotSuiting)
  pub fault_number : (code_of (UnsoundOutput 0 NotSuiting)).number ≡ 10
  pub fault_cause : cause_number NotSuiting ≡ 4
