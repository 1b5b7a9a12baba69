use Rattle.std.proofs.Common.{◌+◌, vec_items, sym, subst, arith}
use Rattle.holdings.specs.Memory.{memory_of}
use Rattle.shelving.specs.Runs.{Told}
use Rattle.shelving.proofs.Separating.{separable_at, told_none, told_row, told_at}
use Rattle.shelving.proofs.pair_texts.tell_pairs.Goals as goal
use Rattle.shelving.proofs.pair_texts.tell_pairs.Goals.{else-loop-first-test, then-loop-first-test+in_ok-tell_row+else-first-last}

pub loop-first-init : goal.loop-first-init
loop-first-init g c = (told_none g.A.Alphabet.model (memory_of c.args.shelf.now) (vec_items c.new-pairs.result) c.new-pairs.ensures.items, omega arith)

pub tell_row-requires : goal.tell_row-requires
tell_row-requires g c = record {
  separable = separable_at g.A.Alphabet.model (memory_of c.args.shelf.now) _ _ _ (sym c.loop-first.auto.steps) (sym c.loop-first.auto.symbols) (sym c.loop-first.auto.witness) c.requires.separable;
  low = omega (arith, c.loop-first.auto.first);
  high = omega (arith, c.loop-first-test.true);
  few = c.requires.few;
  before = c.loop-first.invariant.0;
}

pub loop-first-preserved : goal.loop-first-preserved
loop-first-preserved g c =
    (told_row g.A.Alphabet.model (memory_of c.args.shelf.now) c.loop-first.first (vec_items c.tell_row.new.pairs) c.in_ok-tell_row.ensures, omega (arith, c.loop-first-test.true))

pub returns : goal.returns
returns g c =
    let m = g.A.Alphabet.model in
    let M = memory_of c.args.shelf.now in
    let h = M.head.holdings in
    elim c.loop-first-test.branch [
      | else-loop-first-test w ↦ subst (λ v. Told m M (h + 1) (h + 2) (vec_items v)) (sym w.pairs-is) (told_at m M c.loop-first.first (vec_items c.loop-first.pairs) (omega (arith, w.loop-first-test.false, c.loop-first.invariant.1)) c.loop-first.invariant.0)
      | then-loop-first-test+in_ok-tell_row+else-first-last w ↦ subst (λ v. Told m M (h + 1) (h + 2) (vec_items v)) (sym w.pairs-is) (told_at m M (c.loop-first.first + 1) (vec_items w.tell_row.new.pairs) (omega (arith, w.loop-first-test.true, w)) (told_row m M c.loop-first.first (vec_items w.tell_row.new.pairs) w.in_ok-tell_row.ensures))
    ]
