use Rattle.std.proofs.Common.{◌≡◌, map, Ok, vec_items, rules}
use Rattle.std.proofs.lemmas.Iterator.{YieldsList-from_slice, YieldsList-from_map, items_from_collect}
use Rattle.exports.specs.Flats.{state_of, rule_of_lem, term_of}
use Rattle.exports.proofs.owned.read.Goals as goal

pub returns : goal.returns
returns c =
    let s : vec_items c.in_ok-collect.field-0 ≡ map state_of c.args.states.now
    = items_from_collect {E = Unit {0}} (Ok c.in_ok-collect.field-0) c.in_ok-collect.ensures.ran (YieldsList-from_map _ state_of (YieldsList-from_slice c.args.states.now cc) c.map.ensures.closure (λ x r q k. search rules)) in
    let r : vec_items c.in_ok-collect-2.field-0 ≡ map rule_of_lem c.args.rules.now
    = items_from_collect {E = Unit {0}} (Ok c.in_ok-collect-2.field-0) c.in_ok-collect-2.ensures.ran (YieldsList-from_map _ rule_of_lem (YieldsList-from_slice c.args.rules.now cc) c.map-2.ensures.closure (λ x r q k. search rules)) in
    let o : vec_items c.in_ok-collect-3.field-0 ≡ map term_of c.args.outputs.now
    = items_from_collect {E = Unit {0}} (Ok c.in_ok-collect-3.field-0) c.in_ok-collect-3.ensures.ran (YieldsList-from_map _ term_of (YieldsList-from_slice c.args.outputs.now cc) c.map-3.ensures.closure (λ x r q k. search rules)) in
    cc
