-- The joined filter composes the two.
use Rattle.std.proofs.Common.{◌≡◌, ℕ, ◌*◌, ◌<◌, ◌≤◌, List, [], ◌∷◌, map, length, get_or, Some, None, Option, sym, refl, ap, ◌∙◌, subst, arith}
use Rattle.std.specs.List.{AllByRecursion}
use Rattle.std.proofs.ByRecursion.{All-map}
use Rattle.std.proofs.lemmas.List.{length-map, get_or-map}
use Rattle.machine.specs.Machine.{and_then, transduced}
use Rattle.machine.specs.Composed.{renamed, Composes}
use Rattle.machine.proofs.Composed.{composes_transduced}
use Rattle.alphabet.specs.Model.{Model}
use Rattle.alphabet.specs.Laws.{Lawful}
use Rattle.table.specs.Table.{Table}
use Rattle.table.specs.Sound.{Sound}
use Rattle.filter.specs.Machines.{values_of, machine_of}
use Rattle.join_laws.specs.Lists.{first}
use Rattle.join_laws.specs.Lines.{table_from, goes, move}
use Rattle.join_laws.specs.Ways.{Way, hits, takes}
use Rattle.join_laws.specs.Pairs.{Pair, place}
use Rattle.join_laws.specs.Joined.{numbered, lines_for, ways_at, targets_at, final_at, pairs, joined}
use Rattle.join_laws.proofs.Firsts.{mapped, first_all}
use Rattle.join_laws.proofs.Lines.{step_is}
use Rattle.join_laws.proofs.Pairs.{pair_step, targets_within}
use Rattle.join_laws.proofs.Places.{In, Begins, begins_length, begins_at, at_place, few}
use Rattle.join_laws.proofs.Explores.{Taken, taken_start, explored_taken, explored_begins}
use Rattle.join_laws.proofs.Tables.{Symbols, lines_same, final_same}
use Rattle.join_laws.proofs.Symbols.{finals_inside}
use Rattle.join_laws.proofs.Numbers.{lines_at}

all_unmap : {X Y : Type 0} (Q : Y → Type 0) (f : X → Y) (xs : List X) → AllByRecursion Q (map f xs) → AllByRecursion (λ x. Q (f x)) xs
all_unmap Q f [] all = tt
all_unmap Q f (x ∷ xs) all = (all.0, all_unmap Q f xs all.1)

state_same : (p q : ℕ) (v w : List ℕ) → ◌≡◌ {A = Option (ℕ × List ℕ)} (Some (p, v)) (Some (q, w)) → p ≡ q
state_same p q v w e = let k : ◌≡◌ {A = ℕ × List ℕ} (p, v) (q, w) = cc in ap (λ (r : ℕ × List ℕ). r.0) k

module _ {G T : Type 0} (m : Model G T) (law : Lawful m) (F H : Table G T) (ok_f : Sound m F) (ok_h : Sound m H) where
  -- all pairs were taken
  pub pairs_taken : Taken (targets_at m F H) (length F.states) (length H.states) (length (pairs m F H)) (pairs m F H)
  unfolding pairs
  pairs_taken =
      let a = length F.states in
      let b = length H.states in
      let keeps = targets_within m law F H ok_f ok_h in
      explored_taken (targets_at m F H) a b keeps (a * b) 0 ((0, 0) ∷ []) (taken_start (targets_at m F H) a b keeps ok_f.some_state ok_h.some_state) (omega arith)

  pub pairs_few : length (pairs m F H) ≤ length F.states * length H.states
  pairs_few = few (length F.states) (length H.states) (pairs m F H) pairs_taken.distinct pairs_taken.within

  pub pairs_begin : Begins ((0, 0) ∷ []) (pairs m F H)
  unfolding pairs
  pairs_begin = explored_begins (targets_at m F H) (length F.states * length H.states) 0 ((0, 0) ∷ [])

  -- the ways of a pair lead to pairs with numbers
  pub ways_lead : (i : ℕ) → i < length (pairs m F H) → AllByRecursion (λ (w : Way G T Pair). In (pairs m F H) w.to) (ways_at m F H (get_or (pairs m F H) i (0, 0)))
  ways_lead i h = all_unmap (In (pairs m F H)) (λ (w : Way G T Pair). w.to) (ways_at m F H (get_or (pairs m F H) i (0, 0))) (pairs_taken.closed i h)

  -- a move of the joined filter is by the first way of its pair
  joined_step : (i s : ℕ) → i < length (pairs m F H)
      → (machine_of m (joined m F H)).step i s ≡ and_then (mapped (numbered (pairs m F H) i) (first (hits m s) (ways_at m F H (get_or (pairs m F H) i (0, 0))))) (goes m s)
  unfolding joined
  joined_step i s h =
      let P = pairs m F H in
      let ls = lines_for (ways_at m F H) P 0 P in
      step_is m (table_from m (map (final_at m F H) P) ls) i s
      ∙ ap (λ l. move m l i s) (lines_same m (map (final_at m F H) P) ls)
      ∙ ap (λ o. and_then o (goes m s)) (lines_at m (ways_at m F H) P P i 0 i s (omega arith) h)

  pub joined_composes_lem : Composes (machine_of m F) (machine_of m H) (machine_of m (joined m F H)) (pairs m F H)
  unfolding joined final_at
  joined_composes_lem = record {
    some = begins_length ((0, 0) ∷ []) P pairs_begin;
    start = begins_at ((0, 0) ∷ []) P pairs_begin 0 (omega arith);
    stays = λ i h s j w e. stay i h s j w (first (hits m s) (ways_at m F H (get_or P i (0, 0)))) refl (sym (joined_step i s h) ∙ e);
    step = λ i h s. ap (renamed P) (joined_step i s h) ∙ steps i h s (first (hits m s) (ways_at m F H (get_or P i (0, 0)))) refl ∙ pair_step m law F H ok_f ok_h (get_or P i (0, 0)) s;
    final = λ i h. let k : i < length (map (final_at m F H) P) = rw length-map h in final_same m law (map (final_at m F H) P) (lines_for (ways_at m F H) P 0 P) i k symbols ∙ get_or-map (final_at m F H) P i (0, 0) None h;
  }
    where
      P : List Pair
      P = pairs m F H

      symbols : AllByRecursion (Symbols m) (map (final_at m F H) P)
      symbols = All-map (Symbols m) (final_at m F H) P (each P)
        where
          each : (xs : List Pair) → AllByRecursion (λ x. Symbols m (final_at m F H x)) xs
          each [] = tt
          each (x ∷ xs) = (finals_inside m law F H ok_h x, each xs)

      lead : (i : ℕ) → i < length P → (s : ℕ) (w : Way G T Pair) → first (hits m s) (ways_at m F H (get_or P i (0, 0))) ≡ Some w → In P w.to
      lead i h s w e = first_all (hits m s) (λ (v : Way G T Pair). In P v.to) (ways_at m F H (get_or P i (0, 0))) w (ways_lead i h) e

      stay : (i : ℕ) → i < length P → (s j : ℕ) (v : List ℕ) (o : Option (Way G T Pair)) → first (hits m s) (ways_at m F H (get_or P i (0, 0))) ≡ o
          → and_then (mapped (numbered P i) o) (goes m s) ≡ Some (j, v) → j < length P
      stay i h s j v None e k = absurd (grind arith)
      stay i h s j v (Some w) e k = subst (λ n. n < length P) (state_same (place P w.to) j (values_of m w.outputs s) v k) (lead i h s w e)

      steps : (i : ℕ) → i < length P → (s : ℕ) (o : Option (Way G T Pair)) → first (hits m s) (ways_at m F H (get_or P i (0, 0))) ≡ o
          → renamed P (and_then (mapped (numbered P i) o) (goes m s)) ≡ and_then (first (hits m s) (ways_at m F H (get_or P i (0, 0)))) (takes m s)
      steps i h s None e = rw e
      steps i h s (Some w) e = ap (λ x. Some (x, values_of m w.outputs s)) (at_place P w.to (lead i h s w e)) ∙ ap (λ o. and_then o (takes m s)) (sym e)

  pub joined_transduced : (u : List ℕ) → transduced (machine_of m (joined m F H)) u ≡ and_then (transduced (machine_of m F) u) (λ w. transduced (machine_of m H) w)
  joined_transduced = composes_transduced (machine_of m F) (machine_of m H) (machine_of m (joined m F H)) (pairs m F H) joined_composes_lem

  pub joined_few : length (joined m F H).states ≤ length F.states * length H.states
  unfolding joined
  joined_few = simp length-map pairs_few
