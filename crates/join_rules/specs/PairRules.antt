-- The rules of pairs, written as the pairs are taken.
use Rattle.std.specs.Prelude.{◌≡◌, ℕ, ◌-◌, ◌<◌, ◌≤◌, List, map, length, take, drop, Ok, Err, Result}
use Rattle.alphabet.specs.Model.{Model}
use Rattle.table.specs.declared.entries.Rule.{Rule}
use Rattle.table.specs.Table.{Table}
use Rattle.join_laws.specs.Ways.{Way}
use Rattle.join_laws.specs.Pairs.{Pair, met_all}
use Rattle.join_laws.specs.Joined.{numbered, lines_for, ways_at, pairs}
use Rattle.join_ways.specs.declared.slice_vec.SliceVec.{SliceVec}
use Rattle.join_ways.specs.declared.write.TooLarge.{TooLarge}
use Rattle.join_ways.specs.Written.{spliced}
use Rattle.join_ways.specs.Added.{Lines, FitsIn, AddedTo}
use Rattle.join_pairs.specs.Meets.{targets_of, renumbered}

-- the items from n on
abbrev pub since : {X : Type 0} → ℕ → SliceVec X → List X
since n l = take (l.count - n) (drop n l.items.now)

-- all targets of the rules from n on were met, and the rules have their numbers; or there is no room for the targets
abbrev pub NumbersSince : {G : Type 0} → ℕ → ℕ → List Pair → ℕ → SliceVec (Rule G) → List Pair → SliceVec (Rule G) → Result Unit TooLarge → Type 0
NumbersSince p n P room l P' l' (Ok u) =
    (P' ≡ met_all P (targets_of p (since n l))) × (length P' ≤ room) × (l'.count ≡ l.count) × (l'.items.now ≡ spliced n (map (renumbered P' p) (since n l)) l.items.now)
NumbersSince p n P room l P' l' (Err e) = room < length (met_all P (targets_of p (since n l)))

-- the pairs that ways lead to
abbrev pub targets : {G T : Type 0} → List (Way G T Pair) → List Pair
targets {G} {T} ws = map (λ (w : Way G T Pair). w.to) ws

-- from pairs P, all targets of the ways are met and the ways are added as lines of the state k; or that does not fit
abbrev pub Takes : {G T : Type 0} → ℕ → List (Way G T Pair) → List Pair → ℕ → Lines G T → List Pair → Lines G T → Result Unit TooLarge → Type 0
Takes k ws P room l P' l' (Ok u) = (P' ≡ met_all P (targets ws)) × (length P' ≤ room) × AddedTo (map (numbered P' k) ws) l l'
Takes k ws P room l P' l' (Err e) = let Q = met_all P (targets ws) in length Q ≤ room → FitsIn (map (numbered Q k) ws) l → ⊥

-- all pairs are met and all rules of the joined filter are added; or they do not fit
abbrev pub Explores : {G T : Type 0} → Model G T → Table G T → Table G T → ℕ → Lines G T → List Pair → Lines G T → Result Unit TooLarge → Type 0
Explores m F H room l P' l' (Ok u) =
    (P' ≡ pairs m F H) × (length P' ≤ room) × AddedTo (lines_for (ways_at m F H) (pairs m F H) 0 (pairs m F H)) l l'
Explores m F H room l P' l' (Err e) =
    length (pairs m F H) ≤ room → FitsIn (lines_for (ways_at m F H) (pairs m F H) 0 (pairs m F H)) l → ⊥
