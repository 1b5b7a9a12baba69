-- The cases, and the one test of them all.
use Rattle.std.specs.Prelude.{Bool, ◌&&◌, List, [], ◌∷◌}
use Rattle.range_laws.specs.declared.Range.{Range}
use Rattle.range_laws.specs.declared.RangeTerm.{RangeTerm}
use Rattle.mark_laws.specs.declared.MarkSet.{MarkSet}
use Rattle.mark_laws.specs.declared.MarkTerm.{MarkTerm}
use Rattle.mark_laws.specs.Marks.{marks}
use Rattle.join_laws.specs.Joined.{joined}
use Rattle.certificates.specs.Points.{Point, start}
use Rattle.specimens.specs.Bytes.{bytes, copy, escape, lower, prompt, late, only_a, both_copied, forked, one_x, two_x, exclaim, moved_to}
use Rattle.specimens.specs.Filters.{byte_filters, mark_filters}
use Rattle.specimens.specs.Marks.{turned}
use Rattle.specimens.specs.Claims.{Claim, Faultless, Unsuited, Written, AreEquivalent, DifferAt, all_tested}

-- the late filter has one letter still to write
abbrev behind : Point
behind = record { left = 0; right = 1; lag = (0x61 ∷ [], []) }

-- the cases over bytes
abbrev pub byte_claims : List (Claim Range RangeTerm)
byte_claims =
    Written escape (0x26 ∷ []) (0x26 ∷ (0x61 ∷ (0x6d ∷ (0x70 ∷ (0x3b ∷ [])))))
    ∷ (DifferAt escape copy (0x26 ∷ [])
    ∷ (DifferAt (joined bytes escape escape) escape (0x26 ∷ [])
    ∷ (AreEquivalent (joined bytes lower lower) lower (start ∷ [])
    ∷ (AreEquivalent prompt late (start ∷ (behind ∷ []))
    ∷ (DifferAt only_a both_copied (0x62 ∷ [])
    ∷ (DifferAt (forked two_x) (forked one_x) (0x62 ∷ (0x63 ∷ []))
    ∷ (DifferAt exclaim copy []
    ∷ (Faultless (moved_to 0xdf ∷ [])
    ∷ (Unsuited (moved_to 0xe0) 0
    ∷ (Faultless byte_filters
    ∷ []))))))))))

-- the cases over marks
abbrev pub mark_claims : List (Claim MarkSet MarkTerm)
mark_claims = AreEquivalent (joined marks (turned 2 1) (turned 19 18)) (turned 1 0) (start ∷ []) ∷ (Faultless mark_filters ∷ [])

-- every case passes its test
unfoldable pub all_hold : Bool
all_hold = all_tested bytes byte_claims && all_tested marks mark_claims
