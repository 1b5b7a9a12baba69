use Rattle.std.proofs.Common.{◌+◌, ◌-◌, map, length, take, drop}
use Rattle.table.specs.Table.{table_of}
use Rattle.join_ways.specs.Paths.{within, along}
use Rattle.join_ways.specs.Written.{Same}
use Rattle.join_ways.specs.Added.{counts, lines}
use Rattle.join_ways.proofs.Goings.{Going}
use Rattle.join_ways.proofs.ways.+add_ways.Given as goal

abbrev pub decreases-add_ways : goal.decreases-add_ways
decreases-add_ways g l = length l.course.now.terms.now - l.depth

abbrev pub invariant-loop-rule : goal.invariant-loop-rule
invariant-loop-rule g l =
    let m = g.A.Alphabet.model in
    let F = table_of l.course.second.now.draft in
    let ts = l.course.terms.now in
    let acc = along m (take l.depth ts) (map (within F.outputs) (take l.depth l.initial.path)) in
    Going m F l.course.number acc (drop (l.depth + 1) ts) l.term l.state l.guard (counts (lines l.initial.rules l.initial.outputs)) (lines l.initial.rules l.initial.outputs).rules.items.now (lines l.initial.rules l.initial.outputs).outputs.items.now l.depth l.initial.path
    l.rule-index l.start (counts (lines l.rules l.outputs)) (lines l.rules l.outputs).rules.items.now (lines l.rules l.outputs).outputs.items.now l.path
    × Same l.initial.rules l.rules × Same l.initial.outputs l.outputs
