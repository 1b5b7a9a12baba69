use Rattle.std.proofs.Common.{◌≡◌, ◌-◌, [], ◌∷◌, map, length, subst, arith}
use Rattle.std.proofs.lemmas.Result.{err_from_is_err_and}
use Rattle.join_ways.specs.Written.{Wrote}
use Rattle.join_ways.specs.Paths.{within, along, whole_line}
use Rattle.join_ways.specs.Added.{lines, counts}
use Rattle.join_ways.proofs.Adds.{one_refused, one_over, one_pushed}
use Rattle.join_ways.proofs.ways.add_rule.Goals as goal

pub returns-in_err-write_along-clause-adds : goal.returns-in_err-write_along-clause-adds
returns-in_err-write_along-clause-adds g c =
    let l = whole_line c.args.course.now.number (along g.A.Alphabet.model c.args.course.now.terms.now (map (within c.args.course.now.second.now.draft.outputs.now) c.args.path.now)) c.args.state c.args.guard in
    let p = err_from_is_err_and c.from_residual.result c.from_residual.ensures.1 in
    rw p.1 (one_refused (counts (lines c.args.rules.now c.args.outputs.now)) l (lines c.args.rules.now c.args.outputs.now).rules.items.now (lines c.args.rules.now c.args.outputs.now).outputs.items.now c.in_err-write_along.ensures.wrote)

pub returns-then-count-gt-MOST_AT_ONCE-clause-adds : goal.returns-then-count-gt-MOST_AT_ONCE-clause-adds
returns-then-count-gt-MOST_AT_ONCE-clause-adds g c =
    let l = whole_line c.args.course.now.number (along g.A.Alphabet.model c.args.course.now.terms.now (map (within c.args.course.now.second.now.draft.outputs.now) c.args.path.now)) c.args.state c.args.guard in
    let wrote = c.in_ok-write_along.ensures.wrote in
    one_over (counts (lines c.args.rules.now c.args.outputs.now)) l (lines c.args.rules.now c.args.outputs.now).rules.items.now (lines c.args.rules.now c.args.outputs.now).outputs.items.now (omega (arith, wrote.0, c.if-count-gt-MOST_AT_ONCE.true))

pub returns-clause-adds : goal.returns-clause-adds
returns-clause-adds g c =
    let l = whole_line c.args.course.now.number (along g.A.Alphabet.model c.args.course.now.terms.now (map (within c.args.course.now.second.now.draft.outputs.now) c.args.path.now)) c.args.state c.args.guard in
    let wrote = c.in_ok-write_along.ensures.wrote in
    let count : c.write_along.new.outputs.count - (lines c.args.rules.now c.args.outputs.now).outputs.count ≡ length l.outputs = omega (arith, wrote.0) in
    one_pushed l (lines c.args.rules.now c.args.outputs.now) (lines c.push.new.self c.write_along.new.outputs) (record { ends = wrote.0; room = wrote.1; is = wrote.2 }) (omega (arith, wrote.0)) c.push.result
    (subst (λ n. Wrote (record { state = c.args.course.now.number; next = c.args.state; outputs = n; guard = c.args.guard } ∷ []) (lines c.args.rules.now c.args.outputs.now).rules c.push.new.self c.push.result) count c.push.ensures.wrote)
