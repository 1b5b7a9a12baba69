-- Pairs of states, numbered as they are first met.
use Rattle.std.specs.Prelude.{ℕ, zero, suc, cond, ◌&&◌, List, [], ◌∷◌, ◌++◌, length, ◌==◌, nat_lt, slice_index_or}

-- a state of the first filter and one of the second
abbrev pub Pair : Type 0
Pair = ℕ × ℕ

-- the number of a pair, or the list's length where it has none
abbrev pub place : List Pair → Pair → ℕ
place [] x = 0
place (y ∷ P) x = cond (y.0 == x.0 && y.1 == x.1) 0 (suc (place P x))

-- a pair is met: it gets the next number, unless it has one
abbrev pub met : List Pair → Pair → List Pair
met P x = cond (nat_lt (place P x) (length P)) P (P ++ x ∷ [])

abbrev pub met_all : List Pair → List Pair → List Pair
met_all P [] = P
met_all P (x ∷ xs) = met_all (met P x) xs

-- pairs are taken by number from k on, n of them at most, and the targets of each are met
unfoldable pub explored : (Pair → List Pair) → ℕ → ℕ → List Pair → List Pair
explored targets zero k P = P
explored targets (suc n) k P = cond (nat_lt k (length P)) (explored targets n (suc k) (met_all P (targets (slice_index_or P k (0, 0))))) P
