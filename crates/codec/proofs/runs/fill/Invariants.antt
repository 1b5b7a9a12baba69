use Rattle.std.proofs.Common.{◌≡◌, ◌*◌, drop}
use Rattle.holdings.specs.Append.{over}
use Rattle.codec_laws.specs.Lists.{records}
use Rattle.codec.proofs.runs.fill.Given as goal

abbrev pub invariant-loop-place : goal.invariant-loop-place
invariant-loop-place g l =
    let c = g.R.Record.code in
    (l.rest ≡ drop (l.place-index * c.width) l.bytes) × (l.place-items ≡ over l.initial.place-items 0 (records c l.place-index l.bytes))
