use Rattle.std.proofs.Common.{◌≡◌, ◌+◌, ◌*◌, take}
use Rattle.holdings.specs.Append.{over}
use Rattle.codec_laws.specs.Lists.{image_all}
use Rattle.codec.proofs.runs.put.Given as goal

abbrev pub invariant-loop-record : goal.invariant-loop-record
invariant-loop-record g l =
    let c = g.R.Record.code in
    (l.end ≡ l.from + l.record-index * c.width) × (l.out ≡ over l.initial.out l.from (image_all c (take l.record-index l.list)))
