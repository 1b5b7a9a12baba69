use Rattle.std.proofs.Common.{◌≡◌, ◌-◌, ◌≤◌, map, length, drop, refl, ap, ◌∙◌, arith}
use Rattle.std.proofs.lemmas.List.{length-map, length-take-le, length-drop}
use borrow.Rule.Slice.PartMut.{put_mid}
use Rattle.std.proofs.lemmas.Result.{err_from_is_err_and}
use Rattle.queue.specs.Held.{entries}
use Rattle.join_pairs.specs.Meets.{renumbered}
use Rattle.join_rules.specs.PairRules.{since}
use Rattle.join_rules.proofs.Walkings.{mid_spliced}
use Rattle.join_rules.proofs.number_since.Goals as goal

pub returns-in_err-number_targets-clause-numbers : goal.returns-in_err-number_targets-clause-numbers
returns-in_err-number_targets-clause-numbers g c =
    let p = err_from_is_err_and c.from_residual.result c.from_residual.ensures.1 in
    rw p.1 c.in_err-number_targets.ensures.numbers

pub returns-clause-numbers : goal.returns-clause-numbers
returns-clause-numbers g c =
    let l = c.args.rules.now in
    let numbers = c.in_ok-number_targets.ensures.numbers in
    let f = renumbered (entries c.number_targets.new.queue) c.args.first in
    let fits : l.count ≤ length l.items.now = l.fits in
    let size : l.count - c.args.before ≡ length (map f (since c.args.before l)) = omega (arith, length-map (since c.args.before l) f, length-take-le (l.count - c.args.before) (drop c.args.before l.items.now) (omega (arith, length-drop c.args.before l.items.now))) in
    (numbers.0, numbers.2, refl, ap (λ Y. put_mid c.args.before (l.count - c.args.before) l.items.now Y) numbers.1 ∙ mid_spliced c.args.before (l.count - c.args.before) l.items.now (map f (since c.args.before l)) size)
