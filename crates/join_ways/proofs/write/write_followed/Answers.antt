use Rattle.std.proofs.Common.{◌+◌, [], ◌∷◌, length, take, Some, None, Option, refl, sym, ap, ◌∙◌, append-nil, arith}
use Rattle.std.proofs.lemmas.List.{take_all, length-append}
use Rattle.std.proofs.lemmas.Result.{err_from_is_err_and}
use Rattle.alphabet.specs.Model.{SoundTerm}
use Rattle.table.proofs.Turns.{all_read}
use Rattle.join_laws.specs.Ways.{followed_by}
use Rattle.join_ways.proofs.Splices.{Mid, mid_none, mid_more, mid_same, mid_length}
use Rattle.join_ways.proofs.Followed.{followed_more, followed_front}
use Rattle.join_ways.proofs.write.write_followed.Goals as goal
use Rattle.join_ways.proofs.write.write_followed.Goals.{in-Some+in_ok-push, in_default}

pub loop-other-init : goal.loop-other-init
loop-other-init g c = (mid_none c.args.outputs.now.count c.args.outputs.now.items.now c.args.outputs.now.fits, refl)

pub followed-requires : goal.followed-requires
followed-requires g c = record {
  first = c.requires.term;
  second = all_read (SoundTerm g.A.Alphabet.model) c.args.others.now c.loop-other.other-index c.other-item.result c.loop-other-test.true c.other-item.is c.requires.others;
}

pub returns-in_err-push : goal.returns-in_err-push
returns-in_err-push g c =
    let m = g.A.Alphabet.model in
    let t = c.args.term in
    let us = c.args.others.now in
    let i = c.loop-other.other-index in
    let I = c.loop-other.invariant in
    let e = followed_more m t us i c.other-item.result (Some c.in-Some.followed) c.loop-other-test.true c.other-item.is (sym c.followed.ensures ∙ c.in-Some.is) in
    let same = mid_length _ _ _ _ _ I.0 in
    let over = c.in_err-push.ensures.wrote in
    let p = err_from_is_err_and c.from_residual.result c.from_residual.ensures.1 in
    record {
      wrote = rw p.1 (omega (arith, over, I.0.ends, ap length e, length-append (followed_by m t (take i us)) (c.in-Some.followed ∷ []), followed_front m t us (i + 1)));
      same = c.push.ensures.same ∙ I.1;
    }

pub loop-other-preserved : goal.loop-other-preserved
loop-other-preserved g c =
    let m = g.A.Alphabet.model in
    let I = c.loop-other.invariant in
    let more = λ (o : Option _). followed_more m c.args.term c.args.others.now c.loop-other.other-index c.other-item.result o c.loop-other-test.true c.other-item.is in
    elim c.match-followed.branch [
      | in-Some+in_ok-push w ↦
          let e = more (Some w.in-Some.followed) (sym c.followed.ensures ∙ w.in-Some.is) in
          let wrote = w.in_ok-push.ensures.wrote in
          let piece : Mid c.loop-other.outputs.count w.push.new.self.count (w.in-Some.followed ∷ []) c.loop-other.outputs.items.now w.push.new.self.items.now =
          record { ends = wrote.0; room = wrote.1; is = wrote.2 } in
          rw w.outputs-is (mid_same _ _ _ _ _ _ (sym e) (mid_more _ _ _ _ _ _ _ _ I.0 piece), w.push.ensures.same ∙ I.1)
      | in_default w ↦
          let e = more None (sym c.followed.ensures ∙ w.in_default.is) in
          rw w.outputs-is (mid_same _ _ _ _ _ _ (sym (e ∙ append-nil _)) I.0, I.1)
    ]

pub returns : goal.returns
returns g c =
    let us = c.args.others.now in
    let whole = ap (followed_by g.A.Alphabet.model c.args.term) (take_all c.loop-other.other-index us c.loop-other-test.false) in
    let k = mid_same _ _ _ _ _ _ whole c.loop-other.invariant.0 in
    record { wrote = (k.ends, k.room, k.is); same = c.loop-other.invariant.1 }
