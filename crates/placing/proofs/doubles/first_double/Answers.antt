use Rattle.std.proofs.Common.{length, sym, subst, arith}
use Rattle.table.specs.Table.{table_of}
use Rattle.filter.specs.Meaning.{Equivalent}
use Rattle.holdings.specs.Memory.{memory_of}
use Rattle.shelf_law.specs.Scratch.{scratch_of, Enough}
use Rattle.placing.proofs.Turns.{lowest_here, none_more, none_all}
use Rattle.placing.proofs.doubles.first_double.Goals as goal

pub are_equivalent-requires : goal.are_equivalent-requires
are_equivalent-requires g c =
    let m = g.A.Alphabet.model in
    let F = table_of c.args.filter.now.draft in
    let all = subst (Enough m (scratch_of (length c.args.steps.now) (length c.args.symbols.now)) F) (sym c.filter-holding.ensures) (c.requires.enough c.loop-i.i c.loop-i-test.true) in
    record { enough = (omega (arith, all.0), omega (arith, all.1)) }

pub returns-then-are_equivalent : goal.returns-then-are_equivalent
returns-then-are_equivalent g c =
    let P = Equivalent g.A.Alphabet.model (table_of c.args.filter.now.draft) in
    lowest_here (memory_of c.args.shelf.now.shelf.now) P c.loop-i.i c.loop-i.invariant (table_of c.filter-holding.result.draft) c.filter-holding.ensures c.are_equivalent.result c.are_equivalent.ensures c.loop-i-test.true c.if-are_equivalent.true

pub loop-i-preserved : goal.loop-i-preserved
loop-i-preserved g c =
    let P = Equivalent g.A.Alphabet.model (table_of c.args.filter.now.draft) in
    none_more (memory_of c.args.shelf.now.shelf.now) P c.loop-i.i c.loop-i.invariant (table_of c.filter-holding.result.draft) c.filter-holding.ensures c.are_equivalent.result c.are_equivalent.ensures c.if-are_equivalent.false

pub returns : goal.returns
returns g c =
    let P = Equivalent g.A.Alphabet.model (table_of c.args.filter.now.draft) in
    none_all (memory_of c.args.shelf.now.shelf.now) P c.loop-i.i c.loop-i.invariant c.loop-i-test.false
