use Rattle.std.proofs.Common.{[], map, length, refl, sym, ap, ◌∙◌, subst, arith}
use Rattle.std.proofs.lemmas.Result.{err_from_is_err_and}
use Rattle.queue.specs.Held.{entries}
use Rattle.table.specs.Table.{table_of}
use Rattle.join_laws.specs.Lines.{lines_of}
use Rattle.join_laws.specs.Ways.{ways}
use Rattle.join_laws.specs.Pairs.{met_all}
use Rattle.join_laws.specs.Joined.{aimed, numbered}
use Rattle.join_ways.specs.Paths.{raw_line}
use Rattle.join_ways.specs.Added.{lines, FitsIn, Added, counts}
use Rattle.join_ways.proofs.Followed.{along_none}
use Rattle.join_pairs.specs.Meets.{targets_of, renumbered}
use Rattle.join_rules.specs.PairRules.{since, targets}
use Rattle.join_rules.proofs.Walkings.{fits_raw, targets_raw, fresh, added_numbered}
use Rattle.join_rules.proofs.add_line.Goals as goal

pub returns-in_err-add_ways : goal.returns-in_err-add_ways
returns-in_err-add_ways g c =
    let m = g.A.Alphabet.model in
    let k = c.args.course.now.number in
    let p = c.args.next in
    let W = ways m (lines_of (table_of c.args.course.now.second.now.draft)) c.args.course.now.terms.now c.args.state c.args.guard in
    let P = entries c.args.queue.now in
    let L = (lines c.args.rules.now c.args.outputs.now) in
    let R = L.rules.items.now in
    let O = L.outputs.items.now in
    let L₁ = (lines c.add_ways.new.rules c.add_ways.new.outputs) in
    let R₁ = L₁.rules.items.now in
    let O₁ = L₁.outputs.items.now in
    let over = subst (λ acc. FitsIn (map (raw_line k acc) W) L → ⊥) (along_none m []) c.in_err-add_ways.ensures.adds in
    let e = err_from_is_err_and c.from_residual.result c.from_residual.ensures.1 in
    record {
      takes = rw e.1 (λ low fits. over (fits_raw (met_all P (targets (map (aimed p) W))) k p (counts L) W R O fits));
      taken = refl;
      room = refl;
      same_rules = c.add_ways.ensures.same_rules;
      same_outputs = c.add_ways.ensures.same_outputs;
    }

pub returns-in_err-number_since : goal.returns-in_err-number_since
returns-in_err-number_since g c =
    let m = g.A.Alphabet.model in
    let k = c.args.course.now.number in
    let p = c.args.next in
    let W = ways m (lines_of (table_of c.args.course.now.second.now.draft)) c.args.course.now.terms.now c.args.state c.args.guard in
    let P = entries c.args.queue.now in
    let L = (lines c.args.rules.now c.args.outputs.now) in
    let R = L.rules.items.now in
    let O = L.outputs.items.now in
    let L₁ = (lines c.add_ways.new.rules c.add_ways.new.outputs) in
    let R₁ = L₁.rules.items.now in
    let O₁ = L₁.outputs.items.now in
    let d = counts L₁ in
    let added = subst (λ acc. Added (counts L) d (map (raw_line k acc) W) R R₁ O O₁) (along_none m []) c.in_ok-add_ways.ensures.adds in
    let e = ap (targets_of p) (fresh P k p (counts L) d W R R₁ O O₁ added) ∙ targets_raw P k p W in
    let over = c.in_err-number_since.ensures.numbers in
    let r = err_from_is_err_and c.from_residual-in_err-number_since.result c.from_residual-in_err-number_since.ensures.1 in
    record {
      takes = rw r.1 (λ low fits. omega (arith, over, low, ap (λ l. length (met_all P l)) e));
      taken = c.number_since.ensures.taken;
      room = c.number_since.ensures.room;
      same_rules = c.number_since.ensures.same ∙ c.add_ways.ensures.same_rules;
      same_outputs = c.add_ways.ensures.same_outputs;
    }

pub returns : goal.returns
returns g c =
    let m = g.A.Alphabet.model in
    let k = c.args.course.now.number in
    let p = c.args.next in
    let W = ways m (lines_of (table_of c.args.course.now.second.now.draft)) c.args.course.now.terms.now c.args.state c.args.guard in
    let P = entries c.args.queue.now in
    let L = (lines c.args.rules.now c.args.outputs.now) in
    let R = L.rules.items.now in
    let O = L.outputs.items.now in
    let L₁ = (lines c.add_ways.new.rules c.add_ways.new.outputs) in
    let R₁ = L₁.rules.items.now in
    let O₁ = L₁.outputs.items.now in
    let d = counts L₁ in
    let added = subst (λ acc. Added (counts L) d (map (raw_line k acc) W) R R₁ O O₁) (along_none m []) c.in_ok-add_ways.ensures.adds in
    let P' = entries c.number_since.new.queue in
    let made = fresh P' k p (counts L) d W R R₁ O O₁ added in
    let e = ap (targets_of p) made ∙ targets_raw P' k p W in
    let numbers = c.in_ok-number_since.ensures.numbers in
    let R₂ = c.number_since.new.rules.items.now in
    record {
      takes = (
        numbers.0 ∙ ap (met_all P) e,
        numbers.1,
        subst (λ n. Added (counts L) (record { rules = n; outputs = L₁.outputs.count }) (map (numbered P' k) (map (aimed p) W)) R R₂ O O₁) (sym numbers.2)
            (added_numbered P' k p (counts L) d W R R₁ O O₁ added R₂ (map (renumbered P' p) (since L.rules.count L₁.rules)) numbers.3 (ap (map (renumbered P' p)) made)),
      );
      taken = c.number_since.ensures.taken;
      room = c.number_since.ensures.room;
      same_rules = c.number_since.ensures.same ∙ c.add_ways.ensures.same_rules;
      same_outputs = c.add_ways.ensures.same_outputs;
    }
