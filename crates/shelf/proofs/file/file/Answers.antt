use Rattle.std.proofs.Common.{Err, sym, ap, ◌∙◌, subst}
use Rattle.std.proofs.lemmas.Result.{err_from_is_err_and}
use Rattle.table.specs.Table.{table_of}
use Rattle.table.specs.Results.{dropped}
use Rattle.holdings.specs.Memory.{memory_of}
use Rattle.shelf_law.specs.Placing.{Placing}
use Rattle.shelf_law.specs.Calls.{Filing, Does, unreadable, unsound, files}
use Rattle.shelf_law.proofs.Laws.{law_of}
use Rattle.shelf.specs.Lent.{lent}
use Rattle.shelf.proofs.file.file.Goals as goal

pub returns-in_err-check : goal.returns-in_err-check
returns-in_err-check g c =
    let m = g.A.Alphabet.model in
    let M = memory_of c.args.shelf.now in
    let q = Filing (table_of c.args.draft.now) in
    let p = err_from_is_err_and c.from_residual.result c.from_residual.ensures.1 in
    let D = subst (λ r. Does m (lent c.args.scratch) M q r M) (sym (p.1 ∙ ap Err p.2)) (unreadable q c.in_err-check.field-0.0 (sym c.check.ensures ∙ c.in_err-check.was)) in
    record { does = D; law = law_of m g.A.Alphabet.laws D }

pub returns-in_err-filter : goal.returns-in_err-filter
returns-in_err-filter g c =
    let m = g.A.Alphabet.model in
    let M = memory_of c.args.shelf.now in
    let F = table_of c.args.draft.now in
    let p = err_from_is_err_and c.from_residual-in_err-filter.result c.from_residual-in_err-filter.ensures.1 in
    let ok = sym c.check.ensures ∙ c.in_ok-check.was in
    let D = subst (λ r. Does m (lent c.args.scratch) M (Filing F) r M) (sym (p.1 ∙ ap Err p.2)) (unsound F c.in_err-filter.field-0.0 ok (sym c.new.ensures.answer ∙ ap dropped c.in_err-filter.was)) in
    record { does = D; law = law_of m g.A.Alphabet.laws D }

pub place-requires : goal.place-requires
place-requires g c = record { readable = sym c.check.ensures ∙ c.in_ok-check.was }

pub returns : goal.returns
returns g c =
    let m = g.A.Alphabet.model in
    let F = table_of c.args.draft.now in
    let ok = sym c.check.ensures ∙ c.in_ok-check.was in
    let fine = sym c.new.ensures.answer ∙ ap dropped c.in_ok-filter.was in
    let A = memory_of c.place.new.shelf in
    let placed = subst (λ X. Placing m (lent c.args.scratch) (memory_of c.args.shelf.now) X c.place.result A) (ap table_of c.in_ok-filter.ensures.draft) c.place.ensures in
    let D = files F c.place.result A ok fine placed in
    record { does = D; law = law_of m g.A.Alphabet.laws D }
