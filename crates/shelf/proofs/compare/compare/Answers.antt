use Rattle.std.proofs.Common.{Err, sym, ap, ◌∙◌, subst, arith}
use Rattle.std.proofs.lemmas.Result.{err_from_is_err_and}
use Rattle.table.specs.Table.{table_of}
use Rattle.table.specs.Results.{dropped}
use Rattle.holdings.specs.Memory.{memory_of, holding}
use Rattle.shelf_law.specs.Comparing.{Compared, Compares, unreadable, no_first, no_second, compared}
use Rattle.shelf_law.specs.Holdings.{numbered}
use Rattle.shelf_law.proofs.Laws.{history_told}
use Rattle.shelf.specs.Lent.{lent}
use Rattle.shelf.proofs.Refusals.{placed_has, placeless_none}
use Rattle.shelf.proofs.compare.compare.Goals as goal

pub returns-in_err-readable : goal.returns-in_err-readable
returns-in_err-readable g c =
    let m = g.A.Alphabet.model in
    let M = memory_of c.args.shelf.now in
    let w = c.args.witness.now in
    let p = err_from_is_err_and c.from_residual.result c.from_residual.ensures.1 in
    record {
      compares = subst (λ r. Compares m (lent c.args.scratch) M c.args.first c.args.second w r w) (sym (p.1 ∙ ap Err p.2)) (unreadable c.in_err-readable.field-0.0 (sym c.new.ensures.answer ∙ ap dropped c.in_err-readable.was));
      told = history_told m g.A.Alphabet.laws M;
    }

pub returns-in_err-one : goal.returns-in_err-one
returns-in_err-one g c =
    let m = g.A.Alphabet.model in
    let M = memory_of c.args.shelf.now in
    let w = c.args.witness.now in
    let p = err_from_is_err_and c.from_residual-in_err-one.result c.from_residual-in_err-one.ensures.1 in
    let none = placeless_none M c.args.first c.in_err-one.field-0.0 (sym c.place.ensures ∙ c.in_err-one.was) in
    let ok = sym c.new.ensures.answer ∙ ap dropped c.in_ok-readable.was in
    record {
      compares = subst (λ r. Compares m (lent c.args.scratch) M c.args.first c.args.second w r w) (sym (p.1 ∙ ap Err (p.2 ∙ none.1))) (no_first ok none.0);
      told = history_told m g.A.Alphabet.laws M;
    }

pub returns-in_err-other : goal.returns-in_err-other
returns-in_err-other g c =
    let m = g.A.Alphabet.model in
    let M = memory_of c.args.shelf.now in
    let w = c.args.witness.now in
    let p = err_from_is_err_and c.from_residual-in_err-other.result c.from_residual-in_err-other.ensures.1 in
    let has = placed_has M c.args.first c.in_ok-one.one (sym c.place.ensures ∙ c.in_ok-one.was) in
    let none = placeless_none M c.args.second c.in_err-other.field-0.0 (sym c.place-2.ensures ∙ c.in_err-other.was) in
    let ok = sym c.new.ensures.answer ∙ ap dropped c.in_ok-readable.was in
    record {
      compares = subst (λ r. Compares m (lent c.args.scratch) M c.args.first c.args.second w r w) (sym (p.1 ∙ ap Err (p.2 ∙ none.1))) (no_second ok has.0 none.0);
      told = history_told m g.A.Alphabet.laws M;
    }

pub filter-left-requires : goal.filter-left-requires
filter-left-requires g c =
    let has = placed_has (memory_of c.args.shelf.now) c.args.first c.in_ok-one.one (sym c.place.ensures ∙ c.in_ok-one.was) in
    let same = ap (λ M. M.head.holdings) c.in_ok-readable.ensures.shelf in
    omega (arith, has.0.0, has.0.1, has.1, same)

pub filter-right-requires : goal.filter-right-requires
filter-right-requires g c =
    let has = placed_has (memory_of c.args.shelf.now) c.args.second c.in_ok-other.other (sym c.place-2.ensures ∙ c.in_ok-other.was) in
    let same = ap (λ M. M.head.holdings) c.in_ok-readable.ensures.shelf in
    omega (arith, has.0.0, has.0.1, has.1, same)

pub returns : goal.returns
returns g c =
    let m = g.A.Alphabet.model in
    let M = memory_of c.args.shelf.now in
    let ok = sym c.new.ensures.answer ∙ ap dropped c.in_ok-readable.was in
    let one = placed_has M c.args.first c.in_ok-one.one (sym c.place.ensures ∙ c.in_ok-one.was) in
    let other = placed_has M c.args.second c.in_ok-other.other (sym c.place-2.ensures ∙ c.in_ok-other.was) in
    let same = c.in_ok-readable.ensures.shelf in
    let left = c.filter-left.ensures ∙ ap (λ X. holding X c.in_ok-one.one) same ∙ ap (holding M) (sym one.1) in
    let right = c.filter-right.ensures ∙ ap (λ X. holding X c.in_ok-other.other) same ∙ ap (holding M) (sym other.1) in
    let w = c.args.witness.now in
    let r = c.distinguish.result in
    let after = c.distinguish.new.witness in
    let S = lent c.args.scratch in
    record {
      compares = compared ok one.0 other.0 r after
          (subst (λ X. Compared m S X (numbered M c.args.second) c.args.second w r after) left (subst (λ Y. Compared m S (table_of c.filter-left.result.draft) Y c.args.second w r after) right c.distinguish.ensures));
      told = history_told m g.A.Alphabet.laws M;
    }
