use Rattle.std.proofs.Common.{Err, sym, ap, ◌∙◌, subst}
use Rattle.std.proofs.lemmas.Result.{err_from_is_err_and}
use Rattle.holdings.specs.Memory.{memory_of}
use Rattle.shelf_law.specs.Calls.{Joining, Does, unreadable, no_first, no_second}
use Rattle.shelf_law.proofs.Compositions.{joining_composes}
use Rattle.shelf_law.proofs.Laws.{law_of}
use Rattle.shelf.specs.Lent.{lent, lent_lists}
use Rattle.shelf.proofs.Refusals.{placed_has, placeless_none}
use Rattle.shelf.proofs.join_holdings.join.Goals as goal

pub returns-in_err-check : goal.returns-in_err-check
returns-in_err-check g c =
    let m = g.A.Alphabet.model in
    let M = memory_of c.args.shelf.now in
    let q = Joining c.args.first c.args.second (lent_lists c.args.lists) in
    let p = err_from_is_err_and c.from_residual.result c.from_residual.ensures.1 in
    let D = subst (λ r. Does m (lent c.args.scratch) M q r M) (sym (p.1 ∙ ap Err p.2)) (unreadable q c.in_err-check.field-0.0 (sym c.check.ensures ∙ c.in_err-check.was)) in
    record { does = D; law = law_of m g.A.Alphabet.laws D; composes = joining_composes m M g.A.Alphabet.laws (lent c.args.scratch) D }

pub returns-in_err-place : goal.returns-in_err-place
returns-in_err-place g c =
    let m = g.A.Alphabet.model in
    let M = memory_of c.args.shelf.now in
    let L = lent_lists c.args.lists in
    let p = err_from_is_err_and c.from_residual-in_err-place.result c.from_residual-in_err-place.ensures.1 in
    let none = placeless_none M c.args.first c.in_err-place.field-0.0 (sym c.place.ensures ∙ c.in_err-place.was) in
    let ok = sym c.check.ensures ∙ c.in_ok-check.was in
    let D = subst (λ r. Does m (lent c.args.scratch) M (Joining c.args.first c.args.second L) r M) (sym (p.1 ∙ ap Err (p.2 ∙ none.1))) (no_first c.args.first c.args.second L ok none.0) in
    record { does = D; law = law_of m g.A.Alphabet.laws D; composes = joining_composes m M g.A.Alphabet.laws (lent c.args.scratch) D }

pub returns-in_err-place-2 : goal.returns-in_err-place-2
returns-in_err-place-2 g c =
    let m = g.A.Alphabet.model in
    let M = memory_of c.args.shelf.now in
    let L = lent_lists c.args.lists in
    let p = err_from_is_err_and c.from_residual-in_err-place-2.result c.from_residual-in_err-place-2.ensures.1 in
    let has = placed_has M c.args.first c.in_ok-place.field-0 (sym c.place.ensures ∙ c.in_ok-place.was) in
    let none = placeless_none M c.args.second c.in_err-place-2.field-0.0 (sym c.place-2.ensures ∙ c.in_err-place-2.was) in
    let ok = sym c.check.ensures ∙ c.in_ok-check.was in
    let D = subst (λ r. Does m (lent c.args.scratch) M (Joining c.args.first c.args.second L) r M) (sym (p.1 ∙ ap Err (p.2 ∙ none.1))) (no_second c.args.first c.args.second L ok has.0 none.0) in
    record { does = D; law = law_of m g.A.Alphabet.laws D; composes = joining_composes m M g.A.Alphabet.laws (lent c.args.scratch) D }

pub place_joined-requires : goal.place_joined-requires
place_joined-requires g c =
    let M = memory_of c.args.shelf.now in
    record {
      readable = sym c.check.ensures ∙ c.in_ok-check.was;
      first = (placed_has M c.args.first c.in_ok-place.field-0 (sym c.place.ensures ∙ c.in_ok-place.was)).0;
      second = (placed_has M c.args.second c.in_ok-place-2.field-0 (sym c.place-2.ensures ∙ c.in_ok-place-2.was)).0;
    }

pub returns : goal.returns
returns g c =
    let m = g.A.Alphabet.model in
    let M = memory_of c.args.shelf.now in
    let D = c.place_joined.ensures in
    record { does = D; law = law_of m g.A.Alphabet.laws D; composes = joining_composes m M g.A.Alphabet.laws (lent c.args.scratch) D }
