use Rattle.std.proofs.Common.{◌≡◌, None, length, sym, ◌∙◌, ap}
use Rattle.std.proofs.lemmas.Result.{err_from_is_err_and}
use Rattle.queue.specs.Held.{entries, room}
use Rattle.join_pairs.specs.Meets.{known}
use Rattle.join_pairs.proofs.Meetings.{entries_fit, meets_known, unknown_new, number_given, number_refused, meets_new, meets_full}
use Rattle.join_pairs.proofs.meet.Goals as goal

pub returns-in-Some-clause-meets : goal.returns-in-Some-clause-meets
returns-in-Some-clause-meets c =
    let q = c.args.queue.now in
    let e : known (entries q) c.args.pair ≡ _ = ap (λ l. known l c.args.pair) (sym c.entries.ensures) ∙ sym c.place_of.ensures ∙ c.in-Some.is in
    meets_known (entries q) c.args.pair (room q) c.in-Some.number e (entries_fit q)

pub returns-in_err-new-clause-meets : goal.returns-in_err-new-clause-meets
returns-in_err-new-clause-meets c =
    let q = c.args.queue.now in
    let e : known (entries q) c.args.pair ≡ None = ap (λ l. known l c.args.pair) (sym c.entries.ensures) ∙ sym c.place_of.ensures ∙ c.in_default.is in
    let full = number_refused (length (entries q)) (room q) _ _ c.in_err-new.ensures.answer in
    let p = err_from_is_err_and c.from_residual.result c.from_residual.ensures.1 in
    rw p.1 (meets_full (entries q) c.args.pair (room q) (unknown_new (entries q) c.args.pair e) full)

pub returns-clause-meets : goal.returns-clause-meets
returns-clause-meets c =
    let q = c.args.queue.now in
    let e : known (entries q) c.args.pair ≡ None = ap (λ l. known l c.args.pair) (sym c.entries.ensures) ∙ sym c.place_of.ensures ∙ c.in_default.is in
    let given = number_given (length (entries q)) (room q) c.in_ok-new.new _ c.in_ok-new.ensures.answer in
    meets_new (entries q) c.args.pair (room q) (unknown_new (entries q) c.args.pair e) (entries c.push.new.self) c.in_ok-new.new c.in_ok-new.ensures.entries given.0 given.1
