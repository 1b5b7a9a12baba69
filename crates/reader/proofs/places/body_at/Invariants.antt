use Rattle.std.proofs.Common.{◌≡◌, ◌+◌, ◌*◌, ◌≤◌}
use Rattle.reader.specs.Parts.{body_at}
use Rattle.reader.proofs.places.body_at.Given as goal

abbrev pub invariant-loop-j : goal.invariant-loop-j
invariant-loop-j l = (l.place ≡ body_at l.file l.j) × (l.place ≤ 98 + l.j * 1441770)
