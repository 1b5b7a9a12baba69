-- The step of the empty text.
use Rattle.std.proofs.Common.{◌≡◌, ℕ, zero, suc, ◌+◌, ◌*◌, ◌<◌, ◌≤◌, List, [], ◌∷◌, length, get_or, set, sym, refl, ap, ◌∙◌, subst, mul-le-mul_left, zero-mul, mul-one, arith}
use Rattle.std.proofs.lemmas.List.{get_or-set_same}
use Rattle.machine.specs.Machine.{run}
use Rattle.machine.specs.Explored.{Ready}
use Rattle.machine.proofs.Turns.{ready_start}
use Rattle.machine.proofs.Texts.{texts_root}
use Rattle.alphabet.specs.Model.{Model}
use Rattle.table.specs.Table.{Table}
use Rattle.filter.specs.Machines.{machine_of}
use Rattle.steps.specs.declared.step.Hand.TheVariants.{Left, Right}
use Rattle.steps.specs.Steps.{at, side_of, text}
use Rattle.steps.specs.Places.{place_at}
use Rattle.steps.proofs.Texts.{text_zero}
use Rattle.replay.specs.Replays.{output_by, Stands, Traced}
use Rattle.judging.specs.Kept.{Turned}
use Rattle.equivalence.specs.Answers.{root_side, root_step}

-- what holds of the one step holds of each
one : (P : ℕ → Type 0) → P 0 → (i : ℕ) → i < 1 → P i
one P h zero l = h
one P h (suc i) l = absurd (omega arith)

module _ {G T : Type 0} (m : Model G T) (F : Table G T) where
  -- nothing is written for the empty text
  stands_start : (u : List ℕ) → u ≡ [] → Stands m F u u 0 root_side
  unfolding output_by run
  stands_start u e =
      subst (λ o. Stands m F o o 0 root_side) (sym e)
      (record {
        sits = record { total = refl; ordered = omega arith; within = omega arith; sound = tt; full = refl };
        state = refl;
        output = refl;
      })

  traced_left : Traced m F Left (root_step ∷ [])
  traced_left = record {
    stands = one (λ i. Stands m F (text (root_step ∷ []) (at (root_step ∷ []) i).parent) (text (root_step ∷ []) i) (at (root_step ∷ []) i).symbol (side_of Left (at (root_step ∷ []) i)))
        (stands_start (text (root_step ∷ []) 0) (text_zero (root_step ∷ [])));
  }

  traced_right : Traced m F Right (root_step ∷ [])
  traced_right = record {
    stands = one (λ i. Stands m F (text (root_step ∷ []) (at (root_step ∷ []) i).parent) (text (root_step ∷ []) i) (at (root_step ∷ []) i).symbol (side_of Right (at (root_step ∷ []) i)))
        (stands_start (text (root_step ∷ []) 0) (text_zero (root_step ∷ [])));
  }

module _ {G T : Type 0} (m : Model G T) (F H : Table G T) (p q w : ℕ) (C : List ℕ) (hp : 0 < p) (hq : 0 < q) (hc : 0 < length C) where
  place_zero : place_at p q root_step ≡ 0
  place_zero = omega (arith, zero-mul (q + 1))

  -- the search begins
  pub turned_start : Turned m F H p q w (root_step ∷ []) (set C 0 0) 0
  turned_start = record {
    kept = record {
      tracks = record {
        tree = record { some = omega arith; root = refl; rooted = λ i h l. absurd (omega arith) };
        left = traced_left m F;
        right = traced_right m H;
      };
      lefts = one (λ i. (at (root_step ∷ []) i).left.total ≤ i * w) (omega arith);
      rights = one (λ i. (at (root_step ∷ []) i).right.total ≤ i * w) (omega arith);
      placed = record {
        proper = one _ (hp, hq);
        cell = one (λ i. get_or (set C 0 0) (place_at p q (at (root_step ∷ []) i)) 0 ≡ i) (ap (λ n. get_or (set C 0 0) n 0) place_zero ∙ get_or-set_same C 0 0 0 hc);
      };
      mates = one _ (λ e. grind arith);
    };
    ready = subst (λ V. Ready (machine_of m F) (machine_of m H) V 0) (sym (texts_root (0, 0))) (ready_start (machine_of m F) (machine_of m H));
  }

-- a stretch of symbols has room for the cells
pub cells_fit : (s w r : ℕ) → 1 ≤ w → r ≡ (s + 1) * w → s < r
cells_fit s w r h e = omega (arith, mul-le-mul_left (s + 1) h, mul-one (s + 1))
