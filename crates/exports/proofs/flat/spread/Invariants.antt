use Rattle.std.proofs.Common.{◌≡◌, ◌++◌, map, take, drop}
use Rattle.exports.proofs.flat.spread.Given as goal

-- the list begins with the flat forms of the entries so far, and goes on as before
abbrev pub invariant-loop-i : goal.invariant-loop-i
invariant-loop-i g l =
    (f : g.row.E.Denot → g.row.F.Denot)
    → ((e : g.row.E.Denot) (r : g.row.F.Denot) → g.F.From.from_gives e r → r ≡ f e)
    → l.list ≡ map f (take l.i l.entries) ++ drop l.i l.initial.list
