use Rattle.std.proofs.Common.{◌≡◌, ◌≤◌, None, ap, ◌∙◌, arith}
use Rattle.std.proofs.lemmas.List.{take_all}
use Rattle.holdings.specs.Memory.{states_of_lem, rules_of, outputs_of_lem}
use Rattle.codec_laws.specs.Numbers.{at}
use Rattle.stored_laws.specs.Format.{contents}
use Rattle.reader.specs.Parts.{parts_of}
use Rattle.reader.proofs.Shown.{none_left}
use Rattle.reader.proofs.Stands.{contents_number}
use Rattle.stored.proofs.decoding.totals.Goals as goal

pub returns : goal.returns
returns c =
    let file = c.args.reader.now.file.now in
    let I = c.loop-body.invariant in
    let n = c.loop-body.head.holdings in
    let none : None ≡ parts_of file n
    = c.in-None.ensures.steps.is ∙ ap (λ f. parts_of f c.loop-body.body-iterator.given) I.same ∙ ap (parts_of file) I.place in
    let end : at file 1 ≤ n = none_left file c.requires n none in
    let all = take_all n (contents file) (omega (arith, contents_number file)) in
    record { holdings = omega arith; states = I.states ∙ ap states_of_lem all; rules = I.rules ∙ ap rules_of all; outputs = I.outputs ∙ ap outputs_of_lem all }
