-- Lists that are written over from a place on, and what a writer answers.
use Rattle.std.specs.Prelude.{◌≡◌, ℕ, ◌+◌, ◌<◌, ◌≤◌, List, ◌++◌, length, take, drop, Ok, Err, Result}
use Rattle.join_ways.specs.declared.slice_vec.SliceVec.{SliceVec}
use Rattle.join_ways.specs.declared.write.TooLarge.{TooLarge}

-- the list with xs written over it from place n on
unfoldable pub spliced : {X : Type 0} → ℕ → List X → List X → List X
spliced n xs l = take n l ++ (xs ++ drop (n + length xs) l)

-- xs was pushed; or it has no room
abbrev pub Wrote : {X : Type 0} → List X → SliceVec X → SliceVec X → Result Unit TooLarge → Type 0
Wrote xs before after (Ok u) = (after.count ≡ before.count + length xs) × (after.count ≤ length before.items.now) × (after.items.now ≡ spliced before.count xs before.items.now)
Wrote xs before after (Err e) = length before.items.now < before.count + length xs

-- two lists over one slice
abbrev pub Same : {X : Type 0} → SliceVec X → SliceVec X → Type 0
Same before after = after.items.ghost_name ≡ before.items.ghost_name
