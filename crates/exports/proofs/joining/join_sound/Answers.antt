use Rattle.std.proofs.Common.{vec_items, ◌∙◌}
use Rattle.std.proofs.lemmas.Result.{err_from_is_err_and}
use Rattle.table.specs.Table.{table_of}
use Rattle.range_laws.specs.Ranges.{ranges}
use Rattle.join_laws.specs.Joined.{joined}
use Rattle.exports.proofs.Cut.{cut_is, table_is, all_fit}
use Rattle.exports.proofs.joining.join_sound.Goals as goal

pub returns-in_err-rules : goal.returns-in_err-rules
returns-in_err-rules c =
    let p = err_from_is_err_and c.from_residual-in_err-rules.result c.from_residual-in_err-rules.ensures.1 in
    rw (p.1, p.2) tt

pub returns-in_err-outputs : goal.returns-in_err-outputs
returns-in_err-outputs c =
    let p = err_from_is_err_and c.from_residual-in_err-outputs.result c.from_residual-in_err-outputs.ensures.1 in
    rw (p.1, p.2) tt

pub returns-in_err-pairs : goal.returns-in_err-pairs
returns-in_err-pairs c =
    let p = err_from_is_err_and c.from_residual-in_err-pairs.result c.from_residual-in_err-pairs.ensures.1 in
    rw (p.1, p.2) tt

pub returns-in_err-sizes : goal.returns-in_err-sizes
returns-in_err-sizes c =
    let p = err_from_is_err_and c.from_residual-in_err-sizes.result c.from_residual-in_err-sizes.ensures.1 in
    let J = joined (ranges 256) (table_of c.args.first.now.draft) (table_of c.args.second.now.draft) in
    let B = c.in_err-sizes.ensures.joins in
    rw (p.1, p.2) (λ limited. B (all_fit J _ _ _ _ limited
    (c.as_mut_slice-4.ensures.len ∙ c.in_ok-pairs.ensures.len)
    (c.as_mut_slice.ensures.len ∙ c.in_ok-states.ensures.len)
    (c.as_mut_slice-2.ensures.len ∙ c.in_ok-rules.ensures.len)
    (c.as_mut_slice-3.ensures.len ∙ c.in_ok-outputs.ensures.len)))

pub returns : goal.returns
returns c =
    let J = joined (ranges 256) (table_of c.args.first.now.draft) (table_of c.args.second.now.draft) in
    let B = c.in_ok-sizes.ensures.joins in
    let states =
    c.truncate.ensures.items
    ∙ cut_is J.states c.as_mut_slice.result.now c.join.new.states c.in_ok-states.states.items c.in_ok-states.states.len c.in_ok-sizes.sizes.states (c.join.auto.states ∙ c.as_mut_slice.ensures.len) B.states_are B.state_count in
    let rules =
    c.truncate-2.ensures.items
    ∙ cut_is J.rules c.as_mut_slice-2.result.now c.join.new.rules c.in_ok-rules.rules.items c.in_ok-rules.rules.len c.in_ok-sizes.sizes.rules (c.join.auto.rules ∙ c.as_mut_slice-2.ensures.len) B.rules_are B.rule_count in
    let outputs =
    c.truncate-3.ensures.items
    ∙ cut_is J.outputs c.as_mut_slice-3.result.now c.join.new.outputs c.in_ok-outputs.outputs.items c.in_ok-outputs.outputs.len c.in_ok-sizes.sizes.outputs (c.join.auto.outputs ∙ c.as_mut_slice-3.ensures.len) B.outputs_are B.output_count in
    table_is J (vec_items c.truncate.new.self) (vec_items c.truncate-2.new.self) (vec_items c.truncate-3.new.self) states rules outputs
