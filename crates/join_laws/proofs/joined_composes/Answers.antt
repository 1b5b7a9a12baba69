-- The joined filter composes, is small and stays sound.
use Rattle.table.specs.Table.{table_of}
use Rattle.join_laws.proofs.Joining.{joins}
use Rattle.table.proofs.Soundness.{sound_from_checked}
use Rattle.join_laws.proofs.joined_composes.Goals as goal

pub returns : goal.returns
returns g c =
    let m = g.A.Alphabet.model in
    let law = g.A.Alphabet.laws in
    let F = table_of c.args.first.now.draft in
    let H = table_of c.args.second.now.draft in
    joins m law F H (sound_from_checked g.A.Alphabet.model g.A.Alphabet.laws (table_of c.args.first.now.draft) c.args.first.now.sound) (sound_from_checked g.A.Alphabet.model g.A.Alphabet.laws (table_of c.args.second.now.draft) c.args.second.now.sound)
