use Rattle.std.proofs.Common.{◌≡◌, ◌*◌, ◌≤◌, take, sum_by}
use Rattle.table.proofs.check.total.Given as goal

abbrev pub invariant-loop-owner : goal.invariant-loop-owner
invariant-loop-owner g l = (l.total ≡ sum_by g.O.Owner.count (take l.owner-index l.owners)) × (l.total ≤ 65535 * l.owner-index)
