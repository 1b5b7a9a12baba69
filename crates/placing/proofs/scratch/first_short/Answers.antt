use Rattle.table.specs.Table.{table_of}
use Rattle.holdings.specs.Memory.{memory_of}
use Rattle.shelf_law.specs.Scratch.{scratch_of, Short}
use Rattle.placing.proofs.Turns.{lowest_here, none_more, none_all}
use Rattle.placing.proofs.scratch.first_short.Goals as goal

pub returns-then-is_short : goal.returns-then-is_short
returns-then-is_short g c =
    let m = g.A.Alphabet.model in
    let P = Short m (scratch_of c.args.steps c.args.symbols) (table_of c.args.filter.now.draft) in
    lowest_here (memory_of c.args.shelf.now.shelf.now) P c.loop-i.i c.loop-i.invariant (table_of c.filter-holding.result.draft) c.filter-holding.ensures c.is_short.result c.is_short.ensures c.loop-i-test.true c.if-is_short.true

pub loop-i-preserved : goal.loop-i-preserved
loop-i-preserved g c =
    let m = g.A.Alphabet.model in
    let P = Short m (scratch_of c.args.steps c.args.symbols) (table_of c.args.filter.now.draft) in
    none_more (memory_of c.args.shelf.now.shelf.now) P c.loop-i.i c.loop-i.invariant (table_of c.filter-holding.result.draft) c.filter-holding.ensures c.is_short.result c.is_short.ensures c.if-is_short.false

pub returns : goal.returns
returns g c =
    let m = g.A.Alphabet.model in
    let P = Short m (scratch_of c.args.steps c.args.symbols) (table_of c.args.filter.now.draft) in
    none_all (memory_of c.args.shelf.now.shelf.now) P c.loop-i.i c.loop-i.invariant c.loop-i-test.false
