use Rattle.std.proofs.Common.{◌≡◌, length, vec_items, ap, ◌∙◌, subst, arith}
use Rattle.table.specs.Table.{table_of}
use Rattle.holdings.specs.Memory.{memory_of}
use Rattle.shelf_law.specs.Scratch.{scratch_of}
use Rattle.shelving.specs.Runs.{Run}
use Rattle.shelving.proofs.Running.{run_none, run_more}
use Rattle.shelving.proofs.filing.file_bodies.Goals as goal

pub loop-i-init : goal.loop-i-init
loop-i-init g c =
    let S = scratch_of (length c.args.steps.now) (length c.args.symbols.now) in
    run_none g.A.Alphabet.model S (memory_of c.args.bodies.now) (memory_of c.args.shelf.now) (vec_items c.new-verdicts.result) c.new-verdicts.ensures.items

pub loop-i-preserved : goal.loop-i-preserved
loop-i-preserved g c =
    let S = scratch_of (length c.args.steps.now) (length c.args.symbols.now) in
    let same = ap (λ n. scratch_of n (length c.loop-i.symbols)) c.loop-i.auto.steps ∙ ap (scratch_of (length c.args.steps.now)) c.loop-i.auto.symbols in
    run_more g.A.Alphabet.model S (memory_of c.args.bodies.now) (memory_of c.args.shelf.now) c.loop-i.i (vec_items c.loop-i.verdicts) (memory_of c.loop-i.shelf) c.loop-i.invariant
    (scratch_of (length c.loop-i.steps) (length c.loop-i.symbols)) same (table_of c.view-body.result) c.view-body.ensures c.file-answer.result (memory_of c.file-answer.new.shelf) c.file-answer.ensures.does
    c.verdict_of.result c.verdict_of.ensures (vec_items c.push.new.self) c.in_ok-push.ensures.items

pub returns : goal.returns
returns g c =
    let S = scratch_of (length c.args.steps.now) (length c.args.symbols.now) in
    let B = memory_of c.args.bodies.now in
    let all : c.loop-i.i ≡ B.head.holdings = omega (arith, c.loop-i-test.false, c.loop-i.auto.i-end) in
    subst (λ n. Run g.A.Alphabet.model S B (memory_of c.args.shelf.now) n (vec_items c.loop-i.verdicts) (memory_of c.loop-i.shelf)) all c.loop-i.invariant
