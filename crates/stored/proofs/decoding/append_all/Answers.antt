use Rattle.std.proofs.Common.{◌≡◌, ◌≤◌, Some, None, ap, ◌∙◌, arith}
use Rattle.std.proofs.lemmas.List.{take_all}
use Rattle.holdings.specs.Memory.{memory_of}
use Rattle.codec_laws.specs.Numbers.{at}
use Rattle.stored_laws.specs.Shelved.{shelved}
use Rattle.reader.specs.Parts.{parts_of}
use Rattle.stored.specs.Bodies.{tables_of_file}
use Rattle.reader.proofs.Shown.{parts, none_left, there}
use Rattle.stored.proofs.Handed.{full}
use Rattle.stored.proofs.Decodes.{number, has_ledger, has_states, has_rules, has_outputs, next_is}
use Rattle.stored.proofs.decoding.append_all.Goals as goal

pub append_body-requires : goal.append_body-requires
append_body-requires g c =
    let guard = g.A.Guard.GuardRecord.code in
    let term = g.A.Term.Record.code in
    let file = c.args.reader.now.file.now in
    let b = c.in-Some.body in
    let i = c.loop-body.body-iterator.given in
    let e : Some (parts b) ≡ parts_of file i = c.in-Some.ensures.steps.is ∙ ap (λ f. parts_of f i) c.loop-body.invariant.same in
    let M = memory_of c.args.shelf.now in
    let N = memory_of c.loop-body.shelf in
    record {
      ledger = has_ledger guard term c.requires.five file c.requires.file i b e M N c.requires.room c.loop-body.invariant.memory;
      states = has_states guard term c.requires.five file c.requires.file i b e M N c.requires.room c.loop-body.invariant.memory;
      rules = has_rules guard term c.requires.five file c.requires.file i b e M N c.requires.room c.loop-body.invariant.memory;
      outputs = has_outputs guard term c.requires.five file c.requires.file i b e M N c.requires.room c.loop-body.invariant.memory;
      full = full file c.requires.file i b e;
      five = c.requires.five;
    }

pub loop-body-preserved : goal.loop-body-preserved
loop-body-preserved g c =
    let guard = g.A.Guard.GuardRecord.code in
    let term = g.A.Term.Record.code in
    let file = c.args.reader.now.file.now in
    let b = c.in-Some.body in
    let i = c.loop-body.body-iterator.given in
    let steps = c.in-Some.ensures.steps in
    let e : Some (parts b) ≡ parts_of file i = steps.is ∙ ap (λ f. parts_of f i) c.loop-body.invariant.same in
    let M = memory_of c.args.shelf.now in
    let N = memory_of c.loop-body.shelf in
    let t = there file c.requires.file i b e in
    record {
      same = steps.same ∙ c.loop-body.invariant.same;
      within = omega (arith, steps.next);
      memory = rw steps.next (c.append_body.ensures ∙ next_is guard term c.requires.five file c.requires.file i b e M N c.requires.room c.loop-body.invariant.memory);
    }

pub returns : goal.returns
returns g c =
    let guard = g.A.Guard.GuardRecord.code in
    let term = g.A.Term.Record.code in
    let file = c.args.reader.now.file.now in
    let i = c.loop-body.body-iterator.given in
    let M = memory_of c.args.shelf.now in
    let none : None ≡ parts_of file i = c.in-None.ensures.steps.is ∙ ap (λ f. parts_of f i) c.loop-body.invariant.same in
    let end : at file 1 ≤ i = none_left file c.requires.file i none in
    c.loop-body.invariant.memory ∙ ap (shelved M) (take_all i (tables_of_file guard term file) (omega (arith, number guard term c.requires.five file c.requires.file)))
