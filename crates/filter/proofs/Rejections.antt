-- A sound filter rejects a text where its machine stops.
use Rattle.std.proofs.Common.{◌≡◌, ℕ, suc, ◌+◌, List, [], ◌∷◌, ◌++◌, Some, None, Option, refl, inl, inr, one-add, arith}
use Rattle.machine.specs.Machine.{run, transduced, transduced_from}
use Rattle.machine.specs.Walk.{or_else, position}
use Rattle.machine.proofs.Runs.{transduced_step}
use Rattle.alphabet.specs.Model.{Model}
use Rattle.alphabet.specs.Laws.{Lawful}
use Rattle.table.specs.Table.{Table}
use Rattle.table.specs.Sound.{Sound}
use Rattle.filter.specs.Machines.{machine_of}
use Rattle.filter.specs.Rejects.{RejectsFrom, Rejects}
use Rattle.filter.proofs.Moves.{move_steps, step_moves}
use Rattle.filter.proofs.Meanings.{final_is}

module _ {G T : Type 0} (m : Model G T) (F : Table G T) (L : Lawful m) (S : Sound m F) where
  module _ (p s : ℕ) (u : List ℕ) where
    -- there is no move on the first symbol
    stuck : (machine_of m F).step p s ≡ None → RejectsFrom m F p (s ∷ u) 0
    stuck e = record {
      state = p;
      on_the_way = [];
      within = omega arith;
      path = (refl, refl);
      stops = inl (omega arith, λ v r M. let f = move_steps m F S p s v r M in grind arith);
    }

    -- after a move on the first symbol
    later : (q : ℕ) (x : List ℕ) (n : ℕ) → (machine_of m F).step p s ≡ Some (q, x) → RejectsFrom m F q u n → RejectsFrom m F p (s ∷ u) (suc n)
    later q x n e R = record {
      state = R.state;
      on_the_way = x ++ R.on_the_way;
      within = omega (arith, R.within);
      path = (x, q, R.on_the_way, step_moves m F S p s x q e, R.path, refl);
      stops = elim R.stops [ inl h ↦ inl (omega arith, h.1) | inr h ↦ inr (omega arith, h.1) ];
    }

  -- a text that is rejected from p is so where the machine has no move, or at its end
  rejected_from : (u : List ℕ) (p : ℕ) → transduced_from (machine_of m F) u p ≡ None → RejectsFrom m F p u (position (machine_of m F) u p)
  unfolding run position
  rejected_from [] p e = record {
    state = p;
    on_the_way = [];
    within = omega arith;
    path = (refl, refl);
    stops = inr (refl, λ v f. let g = final_is m F L S p v f in grind arith);
  }
  rejected_from (s ∷ u) p e = go ((machine_of m F).step p s) refl (rejected_from u)
    where
      go : (o : Option (ℕ × List ℕ)) → (machine_of m F).step p s ≡ o
          → ((q : ℕ) → transduced_from (machine_of m F) u q ≡ None → RejectsFrom m F q u (position (machine_of m F) u q))
          → RejectsFrom m F p (s ∷ u) (or_else o 0 (λ r. 1 + position (machine_of m F) u r.0))
      go None f ih = stuck p s u f
      go (Some r) f ih =
          let rest : transduced_from (machine_of m F) u r.0 ≡ None = let a = transduced_step (machine_of m F) s u p in grind arith in
          rw one-add (later p s u r.0 r.1 (position (machine_of m F) u r.0) f (ih r.0 rest))

  -- from state 0
  pub rejected_at : (u : List ℕ) → transduced (machine_of m F) u ≡ None → Rejects m F u (position (machine_of m F) u 0)
  rejected_at u e = rejected_from u 0 e
