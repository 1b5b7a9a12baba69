use Rattle.std.proofs.Common.{Ok, Err, sym, ap, ◌∙◌, subst, arith}
use Rattle.std.proofs.lemmas.Result.{err_from_is_err_and}
use Rattle.table.specs.Table.{table_of}
use Rattle.table.specs.Results.{map_err, dropped}
use Rattle.answers.specs.Reports.{transducing_fault}
use Rattle.holdings.specs.Memory.{memory_of, holding}
use Rattle.shelf_law.specs.Transducing.{TransducesAt, unreadable, no_holding}
use Rattle.shelf.proofs.Refusals.{placed_has, placeless_none}
use Rattle.shelf.proofs.Outcomes.{holding_transduces}
use Rattle.shelf.proofs.transduce.transduce.Goals as goal

pub returns-in_err-readable : goal.returns-in_err-readable
returns-in_err-readable g c =
    let m = g.A.Alphabet.model in
    let M = memory_of c.args.shelf.now in
    let o = c.args.output.now in
    let p = err_from_is_err_and c.from_residual.result c.from_residual.ensures.1 in
    subst (λ r. TransducesAt m M c.args.number c.args.text.now o r o) (sym (p.1 ∙ ap Err p.2)) (unreadable c.in_err-readable.field-0.0 (sym c.new.ensures.answer ∙ ap dropped c.in_err-readable.was))

pub returns-in_err-place : goal.returns-in_err-place
returns-in_err-place g c =
    let m = g.A.Alphabet.model in
    let M = memory_of c.args.shelf.now in
    let o = c.args.output.now in
    let n = c.args.number in
    let p = err_from_is_err_and c.from_residual-in_err-place.result c.from_residual-in_err-place.ensures.1 in
    let none = placeless_none M n c.in_err-place.field-0.0 (sym c.place.ensures ∙ c.in_err-place.was) in
    subst (λ r. TransducesAt m M n c.args.text.now o r o) (sym (p.1 ∙ ap Err (p.2 ∙ none.1))) (no_holding (sym c.new.ensures.answer ∙ ap dropped c.in_ok-readable.was) none.0)

pub filter-filter-requires : goal.filter-filter-requires
filter-filter-requires g c =
    let has = placed_has (memory_of c.args.shelf.now) c.args.number c.in_ok-place.place (sym c.place.ensures ∙ c.in_ok-place.was) in
    let same = ap (λ M. M.head.holdings) c.in_ok-readable.ensures.shelf in
    omega (arith, has.0.0, has.0.1, has.1, same)

pub returns-in_err-outcome : goal.returns-in_err-outcome
returns-in_err-outcome g c =
    let m = g.A.Alphabet.model in
    let M = memory_of c.args.shelf.now in
    let n = c.args.number in
    let i = c.in_ok-place.place in
    let has = placed_has M n i (sym c.place.ensures ∙ c.in_ok-place.was) in
    let p = err_from_is_err_and c.from_residual-in_err-outcome.result c.from_residual-in_err-outcome.ensures.1 in
    holding_transduces m g.A.Alphabet.laws M (sym c.new.ensures.answer ∙ ap dropped c.in_ok-readable.was) n i has.0 has.1 (omega (arith, has.0.0, has.0.1, has.1)) (table_of c.filter-filter.result.draft) (c.filter-filter.ensures ∙ ap (λ X. holding X i) c.in_ok-readable.ensures.shelf)
    c.args.text.now c.args.output.now c.transduce_sound.new.out c.transduce_sound.result c.transduce_sound.ensures.answer c.transduce_sound.ensures.output
    c.from_residual-in_err-outcome.result (p.1 ∙ ap Err p.2 ∙ sym (ap (map_err transducing_fault) c.in_err-outcome.was))

pub returns : goal.returns
returns g c =
    let m = g.A.Alphabet.model in
    let M = memory_of c.args.shelf.now in
    let n = c.args.number in
    let i = c.in_ok-place.place in
    let has = placed_has M n i (sym c.place.ensures ∙ c.in_ok-place.was) in
    holding_transduces m g.A.Alphabet.laws M (sym c.new.ensures.answer ∙ ap dropped c.in_ok-readable.was) n i has.0 has.1 (omega (arith, has.0.0, has.0.1, has.1)) (table_of c.filter-filter.result.draft) (c.filter-filter.ensures ∙ ap (λ X. holding X i) c.in_ok-readable.ensures.shelf)
    c.args.text.now c.args.output.now c.transduce_sound.new.out c.transduce_sound.result c.transduce_sound.ensures.answer c.transduce_sound.ensures.output
    (Ok c.in_ok-outcome.outcome) (sym (ap (map_err transducing_fault) c.in_ok-outcome.was))
