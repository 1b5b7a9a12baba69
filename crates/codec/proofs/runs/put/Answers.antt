use Rattle.std.proofs.Common.{◌≡◌, ◌+◌, ◌-◌, arith}
use Rattle.codec.proofs.Turns.{next_at, put_more}
use Rattle.codec.proofs.runs.put.Goals as goal

pub loop-record-preserved : goal.loop-record-preserved
loop-record-preserved g c =
    let code = g.R.Record.code in
    let i = c.loop-record.record-index in
    let at = c.loop-record.end in
    let size : (at + c.width-width.result) - at ≡ code.width = omega (arith, c.width-width.ensures) in (
      omega (arith, next_at i code.width),
      put_more code g.R.Record.laws c.args.out.now c.loop-record.out c.args.list.now c.args.from i at _ c.record-item.result c.write.new.out c.loop-record-test.true c.requires.room c.loop-record.invariant.0 size c.record-item.is c.loop-record.invariant.1 c.write.ensures,
    )
