use Rattle.std.proofs.Common.{◌≡◌, ◌++◌, map, max, ◌∙◌, rules, tests}
use Rattle.std.specs.List.{fold}
use Rattle.std.proofs.lemmas.Iterator.{YieldsList-from_slice, YieldsList-from_map}
use Rattle.std.proofs.lemmas.Iterator.Consumers.{YieldsList-at, YieldsList-from_chain, fold_from_yields_List}
use Rattle.replay.specs.Sizes.{finals_of_lem, outputs_of_lem}
use Rattle.replay.proofs.Lengths.{fold_most_append}
use Rattle.replay.proofs.sizes.longest.Goals as goal

pub returns : goal.returns
returns g c =
    let states = c.args.draft.now.states.now in
    let rules_of = c.args.draft.now.rules.now in
    let most : c.fold.result ≡ fold max 0 (map finals_of_lem states ++ map outputs_of_lem rules_of) =
    fold_from_yields_List _ max 0 _ c.fold.ensures.ran
    (YieldsList-from_chain
    (YieldsList-at c.chain.ensures.first (YieldsList-from_map _ finals_of_lem (YieldsList-from_slice states cc) c.map-finals.ensures.closure (λ x r q k. search (rules, tests))))
    (YieldsList-at c.chain.ensures.second (YieldsList-from_map _ outputs_of_lem (YieldsList-from_slice rules_of cc) c.map-outputs.ensures.closure (λ x r q k. search (rules, tests))))
    c.chain.ensures.first_done c.chain.ensures.second_done)
    (λ a x b q k. search (rules, tests)) in
    most ∙ fold_most_append finals_of_lem outputs_of_lem states rules_of
