use Rattle.std.proofs.Common.{◌≡◌, ◌<◌, length, get_or, take, sym, ap, ◌∙◌, arith}
use Rattle.std.proofs.lemmas.List.{at_drop_all, get_or_read}
use Rattle.alphabet.specs.Model.{SoundGuard}
use Rattle.table.specs.declared.entries.Rule.{Rule}
use Rattle.table.specs.Check.{clash, clashes, check_overlaps_lem}
use Rattle.table.proofs.Turns.{all_read}
use Rattle.table.proofs.Overlaps.{some_item, still_clear, overlaps_go_on, overlaps_stop}
use Rattle.table.proofs.check.check_overlaps.Goals as goal

pub do_clash-requires : goal.do_clash-requires
do_clash-requires g c =
    let sound = λ (r : Rule _). SoundGuard g.A.Alphabet.model r.guard in
    let xs = c.args.rules.now in
    record {
      earlier = all_read sound xs c.loop-earlier.earlier c.index-rules-earlier.result (omega arith) c.index-rules-earlier.is c.requires;
      later = all_read sound xs c.pairs.later c.index-rules-later.result c.pairs-test.true c.index-rules-later.is c.requires;
    }

pub loop-earlier-preserved : goal.loop-earlier-preserved
loop-earlier-preserved g c =
    let m = g.A.Alphabet.model in
    let xs = c.args.rules.now in
    let within : c.loop-earlier.earlier < length xs = omega arith in (
      c.loop-earlier.invariant.0,
      λ d.
          let early = get_or_read xs c.loop-earlier.earlier c.index-rules-earlier.result within c.index-rules-earlier.is d in
          let late = get_or_read xs c.pairs.later c.index-rules-later.result c.pairs-test.true c.index-rules-later.is d in
          still_clear m xs (get_or xs c.pairs.later d) d c.loop-earlier.earlier within (c.loop-earlier.invariant.1 d)
          (ap (clash m (get_or xs c.pairs.later d)) (sym early) ∙ ap (λ r. clash m r c.index-rules-earlier.result) (sym late) ∙ sym c.do_clash.ensures ∙ c.if-do_clash.false),
    )

pub pairs-preserved : goal.pairs-preserved
pairs-preserved g c =
    let m = g.A.Alphabet.model in
    let xs = c.args.rules.now in
    let done : c.loop-earlier.earlier ≡ c.pairs.later = omega arith in
    let d = some_item xs c.pairs.later c.pairs-test.true in
    let clear = ap (λ j. clashes m (get_or xs c.pairs.later d) (take j xs)) (sym done) ∙ c.loop-earlier.invariant.1 d in
    (c.loop-earlier.invariant.0, sym (overlaps_go_on m xs c.pairs.later d c.pairs-test.true clear) ∙ c.pairs.invariant.1)

pub returns-after-pairs : goal.returns-after-pairs
returns-after-pairs g c =
    let m = g.A.Alphabet.model in
    let xs = c.args.rules.now in
    let k = c.pairs.later in
    c.pairs.invariant.0 ∙ sym (at_drop_all (check_overlaps_lem m k (take k xs)) xs k c.pairs-test.false) ∙ c.pairs.invariant.1

pub returns-then-do_clash : goal.returns-then-do_clash
returns-then-do_clash g c =
    let m = g.A.Alphabet.model in
    let xs = c.args.rules.now in
    let r = c.index-rules-later.result in
    let within : c.loop-earlier.earlier < length xs = omega arith in
    let early = get_or_read xs c.loop-earlier.earlier c.index-rules-earlier.result within c.index-rules-earlier.is r in
    let here : clash m (get_or xs c.pairs.later r) (get_or xs c.loop-earlier.earlier r) ≡ _ =
    ap (clash m (get_or xs c.pairs.later r)) (sym early) ∙ ap (λ x. clash m x c.index-rules-earlier.result) (sym c.index-rules-later.is) ∙ sym c.do_clash.ensures ∙ c.if-do_clash.true in
    sym (overlaps_stop m xs c.pairs.later r c.pairs-test.true c.loop-earlier.earlier c.loop-earlier-test.true here) ∙ c.pairs.invariant.1
