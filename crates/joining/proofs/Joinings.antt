-- A joined filter in the lists that a caller lends.
use Rattle.std.proofs.Common.{◌≡◌, ℕ, List, ◌++◌, length, take, drop, sym, ap, ◌∙◌}
use Rattle.std.proofs.lemmas.List.{take_at}
use Rattle.table.specs.declared.entries.State.{State}
use Rattle.table.specs.declared.entries.Rule.{Rule}
use Rattle.table.specs.Table.{Table}
use Rattle.join_laws.specs.Theorems.{Limited}
use Rattle.join.specs.declared.Sizes.{Sizes}
use Rattle.join.specs.Filled.{Roomy, Begun}
use Rattle.shelf_law.specs.Scratch.{HeldBy, lists_of}
use Rattle.joining.specs.Fronts.{front_of_lem}

module _ {G T : Type 0} (J : Table G T) (pairs : ℕ) (S : List State) (R : List (Rule G)) (O : List T) where
  -- lists that hold a joined filter within the limits have room for it, and the other way round
  pub roomy : Limited J → HeldBy (lists_of (length S) (length R) (length O) pairs) J → Roomy J pairs S R O
  roomy limited h = record { limited = limited; pairs_fit = h.pairs; states_fit = h.states; rules_fit = h.rules; outputs_fit = h.outputs }

  pub held_by : Roomy J pairs S R O → HeldBy (lists_of (length S) (length R) (length O) pairs) J
  held_by r = record { states = r.states_fit; rules = r.rules_fit; outputs = r.outputs_fit; pairs = r.pairs_fit }

  module _ (n : Sizes) (S' : List State) (R' : List (Rule G)) (O' : List T) (b : Begun J pairs n S S' R R' O O') where
    front : {X : Type 0} (xs l l' : List X) (k : ℕ) → k ≡ length xs → l' ≡ xs ++ drop (length xs) l → take k l' ≡ xs
    front xs l l' k size is = ap (take k) is ∙ take_at xs (drop (length xs) l) k (sym size)

    -- the fronts of the lists are the joined filter
    pub front_joined : front_of_lem S' R' O' n ≡ J
    front_joined =
        let table : List State → List (Rule G) → List T → Table G T = λ x y z. record { states = x; rules = y; outputs = z } in
        let s = front J.states S S' n.states b.state_count b.states_are in
        let r = front J.rules R R' n.rules b.rule_count b.rules_are in
        let o = front J.outputs O O' n.outputs b.output_count b.outputs_are in
        ap (λ x. table x (take n.rules R') (take n.outputs O')) s ∙ ap (λ y. table J.states y (take n.outputs O')) r ∙ ap (table J.states J.rules) o
