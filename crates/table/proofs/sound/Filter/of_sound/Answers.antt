use Rattle.table.specs.Table.{table_of}
use Rattle.table.proofs.Soundness.{checked_from_sound}
use Rattle.table.proofs.sound.Filter.of_sound.Goals as goal

pub invariant_of-result : goal.invariant_of-result
invariant_of-result g c = record { sound = checked_from_sound g.A.Alphabet.model g.A.Alphabet.laws (table_of c.args.draft) c.requires }
