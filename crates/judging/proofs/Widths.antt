-- How long the outputs of a sound table are.
use Rattle.std.proofs.Common.{◌≡◌, ℕ, suc, ◌≤◌, List, [], ◌∷◌, Some, refl, arith}
use Rattle.std.specs.List.{slice_get}
use Rattle.alphabet.specs.Model.{Model}
use Rattle.table.specs.Table.{Table}
use Rattle.table.specs.Sound.{Sound}
use Rattle.replay.specs.Sizes.{most_of, finals_of_lem, outputs_of_lem, longest_of}

-- the largest count is within a bound of all
most_below : {X : Type 0} (count : X → ℕ) (b : ℕ) (xs : List X) → ((j : ℕ) (x : X) → slice_get xs j ≡ Some x → count x ≤ b) → most_of count xs ≤ b
most_below count b [] h = omega arith
most_below count b (x ∷ xs) h =
    let here = h 0 x refl in
    let ih = most_below count b xs (λ j y e. h (suc j) y e) in omega arith

-- a sound table has no longer output than 32
pub longest_few : {G T : Type 0} (m : Model G T) (F : Table G T) → Sound m F → longest_of F ≤ 32
longest_few m F S =
    let a = most_below finals_of_lem 32 F.states S.short_final in
    let b = most_below outputs_of_lem 32 F.rules S.short_output in omega arith
