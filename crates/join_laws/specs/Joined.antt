-- The joined filter of two: the second transduces what the first writes.
use Rattle.std.specs.Prelude.{ℕ, suc, ◌*◌, cond, List, [], ◌∷◌, ◌++◌, map, length, Option, ◌==◌}
use Rattle.machine.specs.Composed.{final_both}
use Rattle.alphabet.specs.Model.{Model}
use Rattle.table.specs.Table.{Table}
use Rattle.filter.specs.Machines.{machine_of}
use Rattle.join_laws.specs.Lists.{gathered}
use Rattle.join_laws.specs.Lines.{Line, lines_of, table_from}
use Rattle.join_laws.specs.Ways.{Way, ways}
use Rattle.join_laws.specs.Pairs.{Pair, place, explored}

-- a way that leads the first filter to p
abbrev pub aimed : {G T : Type 0} → ℕ → Way G T ℕ → Way G T Pair
aimed p w = record { guard = w.guard; to = (p, w.to); outputs = w.outputs }

-- a way from the pair i as a line, by the numbers of the pairs
abbrev pub numbered : {G T : Type 0} → List Pair → ℕ → Way G T Pair → Line G T
numbered P i w = record { state = i; next = place P w.to; guard = w.guard; outputs = w.outputs }

-- the lines of the pairs from number i on
unfoldable pub lines_for : {G T : Type 0} → (Pair → List (Way G T Pair)) → List Pair → ℕ → List Pair → List (Line G T)
lines_for f P i [] = []
lines_for f P i (x ∷ xs) = map (numbered P i) (f x) ++ lines_for f P (suc i) xs

module _ {G T : Type 0} (m : Model G T) (F H : Table G T) where
  -- the ways of a pair: for each line of the first filter's state, all ways through the second from its state
  unfoldable pub ways_at : Pair → List (Way G T Pair)
  ways_at x =
      gathered (λ l. cond (l.state == x.0) (map (aimed l.next) (ways m (lines_of H) l.outputs x.1 l.guard)) []) (lines_of F)

  -- the pairs that the ways of a pair lead to
  abbrev pub targets_at : Pair → List Pair
  targets_at x = map (λ w. w.to) (ways_at x)

  -- the final output of a pair: the first's, transduced by the second to its end
  unfoldable pub final_at : Pair → Option (List ℕ)
  final_at x = final_both (machine_of m F) (machine_of m H) x

  -- the states: the pairs reached from (0, 0), numbered as first met and taken by number
  unfoldable pub pairs : List Pair
  pairs = explored targets_at (length F.states * length H.states) 0 ((0, 0) ∷ [])

  -- the joined filter
  unfoldable pub joined : Table G T
  joined = table_from m (map final_at pairs) (lines_for ways_at pairs 0 pairs)
