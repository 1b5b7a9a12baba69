use Rattle.std.proofs.Common.{sym, refl, ◌∙◌, arith}
use Rattle.queue.specs.Held.{entries}
use Rattle.table.specs.Table.{table_of}
use Rattle.trying.proofs.Tries.{going_reach, going_end}
use Rattle.trying.proofs.attempt.expand.Goals as goal

pub loop-symbol-init : goal.loop-symbol-init
loop-symbol-init g c = (c.requires.going, c.requires.step, refl, refl)

pub attempt-requires : goal.attempt-requires
attempt-requires g c = record {
  slots = omega (arith, c.requires.slots, c.loop-symbol.invariant.3);
  cells = omega (arith, c.requires.cells, c.loop-symbol.auto.cells);
  room = omega (arith, c.requires.room, c.loop-symbol.auto.outputs);
  going = going_reach g.A.Alphabet.model (table_of c.args.pair.now.left.now.draft) (table_of c.args.pair.now.right.now.draft) c.args.pair.now.frame.left c.args.pair.now.frame.right c.args.pair.now.frame.width (entries c.loop-symbol.queue) c.loop-symbol.cells c.args.number c.loop-symbol.from c.loop-symbol.invariant.0
      c.args.step c.loop-symbol.invariant.1 c.in-Some.symbol c.in-Some.ensures.guided;
}

pub overflow_add-from : goal.overflow_add-from
overflow_add-from g c = omega (arith, c.in-Some.ensures.bound)

pub loop-symbol-preserved : goal.loop-symbol-preserved
loop-symbol-preserved g c =
    let a = c.attempt.ensures in
    (a.going, c.loop-symbol.invariant.1 ∙ sym a.step, a.taken ∙ c.loop-symbol.invariant.2, a.slots ∙ c.loop-symbol.invariant.3)

pub returns : goal.returns
returns g c = record {
  turned = going_end g.A.Alphabet.model (table_of c.args.pair.now.left.now.draft) (table_of c.args.pair.now.right.now.draft) c.args.pair.now.frame.left c.args.pair.now.frame.right c.args.pair.now.frame.width (entries c.loop-symbol.queue) c.loop-symbol.cells c.args.number c.loop-symbol.from c.loop-symbol.invariant.0
      c.args.step c.loop-symbol.invariant.1 c.in_default.ensures.guided;
  taken = c.loop-symbol.invariant.2;
  slots = c.loop-symbol.invariant.3;
}
