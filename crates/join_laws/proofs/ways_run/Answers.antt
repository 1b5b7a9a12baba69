-- The first way that holds a symbol.
use Rattle.table.specs.Table.{table_of}
use Rattle.filter.specs.Machines.{machine_of}
use Rattle.std.proofs.Common.{length}
use Rattle.join_laws.specs.Lines.{lines_of}
use Rattle.join_laws.proofs.Lines.{lines_good, step_is, suits_valued}
use Rattle.join_laws.proofs.Ways.{ways_run_lem}
use Rattle.table.proofs.Soundness.{sound_from_checked}
use Rattle.join_laws.proofs.ways_run.Goals as goal

pub returns : goal.returns
returns g c ts q guard s sound suits held =
    let m = g.A.Alphabet.model in
    let H = table_of c.args.second.now.draft in
    ways_run_lem m g.A.Alphabet.laws (length H.states) (lines_of H) (lines_good m H (sound_from_checked g.A.Alphabet.model g.A.Alphabet.laws (table_of c.args.second.now.draft) c.args.second.now.sound)) (machine_of m H) (step_is m H) ts q guard s sound held (suits_valued m guard ts suits s held)
