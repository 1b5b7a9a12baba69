use Rattle.std.proofs.Common.{◌≡◌, ℕ, ◌+◌, ◌-◌, ◌*◌, ◌≤◌, List, length, drop, take, ap, ◌∙◌, arith}
use borrow.Rule.Slice.PartMut.{put_mid}
use Rattle.std.proofs.lemmas.List.{drop-drop, length-drop, length-take-le}
use Rattle.codec_laws.specs.Lists.{records}
use Rattle.codec_laws.proofs.Lists.{records_length}
use Rattle.codec_laws.proofs.Overs.{over_all, part_over}
use Rattle.codec.proofs.Turns.{next_at, fill_next}
use Rattle.codec.proofs.runs.fill.Goals as goal

-- how many places there are
places : {X : Type 0} (xs : List X) (from count : ℕ) → from + count ≤ length xs → length (take ((from + count) - from) (drop from xs)) ≡ count
places xs from count h =
    let e : (from + count) - from ≡ count = omega arith in
    length-take-le ((from + count) - from) (drop from xs) (omega (arith, length-drop from xs)) ∙ e

pub loop-place-preserved : goal.loop-place-preserved
loop-place-preserved g c =
    let code = g.R.Record.code in
    let i = c.loop-place.place-index in
    let rest = c.loop-place.invariant.0 in
    let k = c.width-width.result in
    let next : i * code.width + k ≡ (i + 1) * code.width = omega (arith, next_at i code.width, c.width-width.ensures) in (
      c.split_at.ensures.back ∙ ap (drop k) rest ∙ drop-drop k (i * code.width) c.args.bytes.now ∙ ap (λ m. drop m c.args.bytes.now) next,
      fill_next code _ c.loop-place.place-items i k c.args.bytes.now c.loop-place.rest.now c.read.result c.loop-place-test.true c.width-width.ensures rest c.loop-place.invariant.1 (c.read.ensures ∙ ap code.meaning c.split_at.ensures.front),
    )

pub returns : goal.returns
returns g c =
    let code = g.R.Record.code in
    let list = c.args.list.now in
    let from = c.args.from in
    let count = c.args.count in
    let k = (from + count) - from in
    let n = places list from count c.requires.room in
    let i : c.loop-place.place-index ≡ count = omega arith in
    let rs = records code c.loop-place.place-index c.args.bytes.now in
    let size = records_length code c.loop-place.place-index c.args.bytes.now in
    ap (put_mid from k list) (c.loop-place.invariant.1 ∙ over_all _ rs (omega arith))
    ∙ part_over list from k rs (omega arith)
    ∙ rw i
