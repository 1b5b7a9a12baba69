-- Where a filter stands after one symbol more, by whether a rule is found.
use Rattle.std.proofs.Common.{◌≡◌, ℕ, ◌+◌, ◌-◌, List, [], ◌∷◌, ◌++◌, Some, None, Option, sym, refl, ap, ◌∙◌, arith}
use Rattle.std.proofs.lemmas.List.{length-append}
use Rattle.machine.specs.Machine.{run}
use Rattle.machine.specs.Sides.{state_of, output_of, onward}
use Rattle.machine.proofs.Runs.{state_push, run_push, run_reached}
use Rattle.alphabet.specs.Model.{Model}
use Rattle.table.specs.Table.{Table, final_total_of}
use Rattle.table.specs.Sound.{Sound}
use Rattle.filter.specs.declared.walk.Found.{Found}
use Rattle.filter.specs.Machines.{found, machine_of, values_of, Leads}
use Rattle.filter.proofs.Finds.{Picked, found_picked}
use Rattle.steps.specs.declared.step.Side.{Side}
use Rattle.replay.specs.Replays.{terms_of, output_by}
use Rattle.moves.specs.Moves.{dead_side, Moved}
use Rattle.moves.proofs.Full.{found_full, found_few, found_known}

-- nothing is written where there is no state
dead_output : (o : Option (ℕ × List ℕ)) → state_of o ≡ None → output_of o ≡ []
dead_output None e = refl
dead_output (Some r) e = grind arith

module _ {G T : Type 0} (m : Model G T) (F : Table G T) (x : Side) (s : ℕ) where
  -- there is no move
  pub moved_dead : onward (machine_of m F) x.state s ≡ None → Moved m F x s dead_side
  unfolding output_by
  moved_dead e = record {
    stands = λ u at total.
        let none = state_push (machine_of m F) u s 0 ∙ ap (λ o. onward (machine_of m F) o s) at ∙ e in
        record {
          sits = record { total = refl; ordered = omega arith; within = omega arith; sound = tt; full = refl };
          state = none;
          output = dead_output (run (machine_of m F) (u ++ (s ∷ [])) 0) none;
        };
    short = omega arith;
    known = tt;
  }

  -- a rule is found
  module _ (S : Sound m F) (q first : ℕ) (alive : x.state ≡ Some q) (begins : first ≡ final_total_of F.states) (f : Found)
      (answer : Some f ≡ found m q s 0 first F.rules) (L : Leads m F q s f) where
    picked : Picked m q s F.outputs F.rules 0 (final_total_of F.states) f
    picked = found_picked m q s F.outputs F.rules 0 (final_total_of F.states) f (ap (λ n. found m q s 0 n F.rules) (sym begins) ∙ sym answer)

    abbrev next : Side
    next = record { state = Some f.next; from = f.from; to = f.to; total = x.total + (f.to - f.from) }

    -- the outputs of the rule with what was written before
    pub moved_live : Moved m F x s next
    unfolding output_by
    moved_live = record {
      stands = λ u at total.
          let before = run_reached (run (machine_of m F) u 0) q (at ∙ alive) in
          let after = run_push (machine_of m F) u s 0 q f.next (output_of (run (machine_of m F) u 0)) (values_of m (terms_of F.outputs next) s) before L.steps in
          record {
            sits = record {
              total = omega (arith, total, length-append (output_of (run (machine_of m F) u 0)) (values_of m (terms_of F.outputs next) s), found_full m q s F S f L picked);
              ordered = L.ordered;
              within = L.within;
              sound = L.sound;
              full = found_full m q s F S f L picked;
            };
            state = ap state_of after;
            output = ap output_of after;
          };
      short = omega (arith, found_few m q s F S f L picked);
      known = found_known m q s F S f L picked;
    }
