-- All filters that the cases compare, the joined ones too.
use Rattle.std.specs.Prelude.{List, [], ◌∷◌}
use Rattle.range_laws.specs.declared.Range.{Range}
use Rattle.range_laws.specs.declared.RangeTerm.{RangeTerm}
use Rattle.mark_laws.specs.declared.MarkSet.{MarkSet}
use Rattle.mark_laws.specs.declared.MarkTerm.{MarkTerm}
use Rattle.mark_laws.specs.Marks.{marks}
use Rattle.table.specs.Table.{Table}
use Rattle.join_laws.specs.Joined.{joined}
use Rattle.specimens.specs.Bytes.{bytes, copy, escape, lower, prompt, late, only_a, both_copied, forked, one_x, two_x, exclaim}
use Rattle.specimens.specs.Marks.{turned}

abbrev pub byte_filters : List (Table Range RangeTerm)
byte_filters =
    copy ∷ (escape ∷ (joined bytes escape escape ∷ (lower ∷ (joined bytes lower lower ∷ (prompt ∷ (late
    ∷ (only_a ∷ (both_copied ∷ (forked two_x ∷ (forked one_x ∷ (exclaim ∷ [])))))))))))

abbrev pub mark_filters : List (Table MarkSet MarkTerm)
mark_filters = turned 2 1 ∷ (turned 19 18 ∷ (turned 1 0 ∷ (joined marks (turned 2 1) (turned 19 18) ∷ [])))
