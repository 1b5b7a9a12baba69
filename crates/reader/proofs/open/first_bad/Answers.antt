use Rattle.std.proofs.Common.{◌≡◌, ℕ, ◌+◌, ◌*◌, ◌≤◌, true, List, drop, Some, None, Option, sym, ap, ◌∙◌, arith}
use Rattle.codec_laws.specs.Code.{Code}
use Rattle.codec_laws.specs.Lists.{or_else, wrong_from}
use Rattle.codec_laws.specs.Numbers.{at}
use Rattle.stored_laws.specs.Format.{body_size, wrong_in, contents}
use Rattle.reader.specs.declared.body.Body.{Body}
use Rattle.reader.specs.Parts.{whole, body_at, parts_of}
use Rattle.reader.proofs.Shown.{parts, none_left, there, counts_there, outputs_place}
use Rattle.reader.proofs.Stands.{whole_is, body_inside, body_next, wrong_turn, wrong_end}
use Rattle.reader.proofs.open.first_bad.Goals as goal

-- the wrong bytes from a body on: those of its outputs, then those of the next ones
from_body : {T : Type 0} (term : Code T) (file : List ℕ) (ok : whole file ≡ true) (i : ℕ) (b : Body) (e : Some (parts b) ≡ parts_of file i) (o : Option ℕ) → o ≡ wrong_from term b.outputs.place b.counts.outputs (drop b.outputs.place file) → wrong_in term file (body_at file i) (drop i (contents file)) ≡ or_else o (wrong_in term file (body_at file (i + 1)) (drop (i + 1) (contents file)))
from_body term file ok i b e o found =
    let h = there file ok i b e in
    let counts = counts_there file ok i b e in
    let next = ap (λ n. body_at file i + body_size n) counts ∙ sym (body_next file i h) in
    let outputs : ℕ → Option ℕ = λ n. wrong_from term n b.counts.outputs (drop n file) in
    let rest : ℕ → Option ℕ = λ p. wrong_in term file p (drop (i + 1) (contents file)) in
    wrong_turn file term (body_at file i) i b.counts o h counts (sym (ap outputs (outputs_place file ok i b e)) ∙ sym found)
    ∙ ap (λ p. or_else o (rest p)) next

pub first_wrong-requires : goal.first_wrong-requires
first_wrong-requires g c =
    let file = c.args.reader.now.file.now in
    let ok = c.requires.whole in
    let i = c.loop-body.body-iterator.given in
    let b = c.in-Some.body in
    let e : Some (parts b) ≡ parts_of file i = c.in-Some.ensures.steps.is ∙ ap (λ f. parts_of f i) c.loop-body.invariant.same in
    let W = whole_is file ok in
    let inside = body_inside file i (there file ok i b e) in
    let size = ap body_size (counts_there file ok i b e) in
    let place = outputs_place file ok i b e in
    let five = ap (λ w. b.counts.outputs * w) c.requires.five in
    record { inside = omega arith }

pub returns-in-Some-first_wrong : goal.returns-in-Some-first_wrong
returns-in-Some-first_wrong g c =
    let file = c.args.reader.now.file.now in
    let i = c.loop-body.body-iterator.given in
    let b = c.in-Some.body in
    let e : Some (parts b) ≡ parts_of file i = c.in-Some.ensures.steps.is ∙ ap (λ f. parts_of f i) c.loop-body.invariant.same in
    sym (from_body g.T.Record.code file c.requires.whole i b e _ c.in-Some-first_wrong.ensures) ∙ c.loop-body.invariant.wrong

pub loop-body-preserved : goal.loop-body-preserved
loop-body-preserved g c =
    let file = c.args.reader.now.file.now in
    let i = c.loop-body.body-iterator.given in
    let b = c.in-Some.body in
    let steps = c.in-Some.ensures.steps in
    let e : Some (parts b) ≡ parts_of file i = steps.is ∙ ap (λ f. parts_of f i) c.loop-body.invariant.same in
    let t = there file c.requires.whole i b e in
    record {
      same = steps.same ∙ c.loop-body.invariant.same;
      within = omega (arith, steps.next);
      wrong = rw steps.next (sym (from_body g.T.Record.code file c.requires.whole i b e None c.in_default.ensures) ∙ c.loop-body.invariant.wrong);
    }

pub returns : goal.returns
returns g c =
    let file = c.args.reader.now.file.now in
    let i = c.loop-body.body-iterator.given in
    let none : None ≡ parts_of file i = c.in-None.ensures.steps.is ∙ ap (λ f. parts_of f i) c.loop-body.invariant.same in
    let end : at file 1 ≤ i = none_left file c.requires.whole i none in
    sym (wrong_end file g.T.Record.code (body_at file i) i end) ∙ c.loop-body.invariant.wrong
