use Rattle.std.proofs.Common.{refl}
use Rattle.mark_laws.specs.Marks.{bits_of, goes_into_lem}
use Rattle.marks.proofs.Sets.{bits_with, bits_without}
use Rattle.marks.proofs.MarksAlphabet.narrowed.Goals as goal
use Rattle.marks.proofs.MarksAlphabet.narrowed.Goals.{then-goes_into, else-goes_into}

pub loop-mark-init : goal.loop-mark-init
unfolding bits_of
loop-mark-init c = refl

pub loop-mark-preserved : goal.loop-mark-preserved
loop-mark-preserved c =
    let n = c.loop-mark.mark in
    let p = goes_into_lem c.args.guard c.args.term c.args.into in
    elim c.if-goes_into.branch [
      | then-goes_into w ↦ bits_with n c.loop-mark.bits c.if-goes_into.bits p c.loop-mark-test.true c.loop-mark.invariant w.if-goes_into.ensures w.bits-is
      | else-goes_into w ↦ bits_without n c.loop-mark.bits c.if-goes_into.bits p c.loop-mark.invariant w.if-goes_into.ensures w.bits-is
    ]
