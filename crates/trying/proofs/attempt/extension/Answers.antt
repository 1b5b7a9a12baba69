use Rattle.std.proofs.Common.{◌≤◌, refl, arith}
use Rattle.table.specs.Table.{table_of}
use Rattle.steps.specs.Places.{steps_needed_lem}
use Rattle.trying.proofs.Extending.{number_small, total_small, extends_made}
use Rattle.trying.proofs.attempt.extension.Goals as goal

pub overflow_cast-result : goal.overflow_cast-result
overflow_cast-result g c = omega (arith, number_small (table_of c.args.pair.now.left.now.draft) (table_of c.args.pair.now.right.now.draft) c.args.pair.now.frame c.args.pair.now.framed c.args.number (omega arith))

pub onward-requires : goal.onward-requires
onward-requires g c =
    let few : c.args.number ≤ steps_needed_lem c.args.pair.now.frame.left c.args.pair.now.frame.right = omega arith in
    record {
      first = c.args.pair.now.framed.left_first;
      small = omega (arith, total_small (table_of c.args.pair.now.left.now.draft) (table_of c.args.pair.now.right.now.draft) c.args.pair.now.frame c.args.pair.now.framed c.args.number few);
    }

pub onward-requires-2 : goal.onward-requires-2
onward-requires-2 g c =
    let few : c.args.number ≤ steps_needed_lem c.args.pair.now.frame.left c.args.pair.now.frame.right = omega arith in
    record {
      first = c.args.pair.now.framed.right_first;
      small = omega (arith, total_small (table_of c.args.pair.now.left.now.draft) (table_of c.args.pair.now.right.now.draft) c.args.pair.now.frame c.args.pair.now.framed c.args.number few);
    }

pub returns : goal.returns
returns g c = record {
  parent = refl;
  symbol = refl;
  extends = extends_made g.A.Alphabet.model (table_of c.args.pair.now.left.now.draft) (table_of c.args.pair.now.right.now.draft) c.args.pair.now.frame c.args.pair.now.framed c.args.steps.now c.requires.tracks
      c.args.number c.requires.within c.requires.few c.args.symbol c.onward.result c.onward-2.result c.onward.ensures c.onward-2.ensures c.requires.lefts c.requires.rights;
}
