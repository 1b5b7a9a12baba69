use Rattle.std.proofs.Common.{◌≡◌, ◌+◌, length, drop}
use Rattle.table.specs.Table.{rule_total_of}
use Rattle.filter.specs.Machines.{found}
use Rattle.filter.proofs.walk.find.Given as goal

abbrev pub invariant-loop-number : goal.invariant-loop-number
invariant-loop-number g l =
    let m = g.A.Alphabet.model in
    (length l.filter.draft.outputs.now ≡ l.from + rule_total_of (drop l.number l.filter.draft.rules.now))
    × (found m l.state l.symbol l.number l.from (drop l.number l.filter.draft.rules.now) ≡ found m l.state l.symbol 0 l.first l.filter.draft.rules.now)
