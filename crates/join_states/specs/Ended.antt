-- States and final outputs, written one after another.
use Rattle.std.specs.Prelude.{◌≡◌, ℕ, ◌+◌, ◌≤◌, List, [], ◌∷◌, map, length, Ok, Err, Option, Result}
use Rattle.std.specs.List.{AllByRecursion}
use Rattle.alphabet.specs.Model.{Model}
use Rattle.table.specs.declared.entries.State.{State}
use Rattle.join_laws.specs.Lists.{gathered}
use Rattle.join_laws.specs.Lines.{state_of, constants}
use Rattle.join_ways.specs.declared.slice_vec.SliceVec.{SliceVec}
use Rattle.join_ways.specs.declared.write.TooLarge.{TooLarge}
use Rattle.join_ways.specs.Written.{spliced}

module _ {G T : Type 0} (m : Model G T) where
  -- the final outputs have at most 32 symbols each, and room behind `at`
  pub record Room (at : ℕ) (os : List (Option (List ℕ))) (outputs : List T) : Type 0 where
    pub short : AllByRecursion (λ o. (state_of o).finals ≤ 32) os
    pub fits : at + length (gathered (constants m) os) ≤ length outputs

  -- the state of a final output, which was pushed; or it has no room
  abbrev pub Ended : Option (List ℕ) → SliceVec T → SliceVec T → Result State TooLarge → Type 0
  Ended o before after (Ok s) =
      (s ≡ state_of o) × (after.count ≡ before.count + length (constants m o)) × (after.items.now ≡ spliced before.count (constants m o) before.items.now) × Room before.count (o ∷ []) before.items.now
  Ended o before after (Err e) = Room before.count (o ∷ []) before.items.now → ⊥

  -- the states of final outputs, which were all pushed; or they have no room
  abbrev pub EndedAll : List (Option (List ℕ)) → List State → List State → SliceVec T → SliceVec T → Result Unit TooLarge → Type 0
  EndedAll os states states' before after (Ok u) =
      (after.count ≡ before.count + length (gathered (constants m) os)) × (states' ≡ spliced 0 (map state_of os) states) × (after.items.now ≡ spliced before.count (gathered (constants m) os) before.items.now) × Room before.count os before.items.now
  EndedAll os states states' before after (Err e) = Room before.count os before.items.now → ⊥
