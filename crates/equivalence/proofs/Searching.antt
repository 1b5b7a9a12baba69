-- A turn of the search: the text of a step distinguishes, or its symbols are next.
use Rattle.std.proofs.Common.{◌≡◌, ℕ, ◌+◌, ◌*◌, ◌<◌, ◌≤◌, Bool, true, false, cond, eqb, List, length, take, drop, Some, None, Option, sym, refl, ap, ◌∙◌, mul-le-mul_right, arith}
use Rattle.std.specs.List.{slice_get}
use Rattle.std.proofs.lemmas.List.{length-take}
use Rattle.std.proofs.lemmas.Bool.{eqb-true, eqb-false}
use Rattle.machine.specs.Machine.{Machine, run, and_then, prefixed, transduced}
use Rattle.machine.specs.Sides.{state_of, output_of}
use Rattle.machine.specs.Compared.{Told}
use Rattle.machine.specs.Texts.{texts}
use Rattle.machine.proofs.Turns.{ready_agreed, ready_found, ready_done}
use Rattle.alphabet.specs.Model.{Model}
use Rattle.table.specs.declared.entries.State.{State}
use Rattle.table.specs.Table.{Table, final_total_of, final_outputs}
use Rattle.filter.specs.Machines.{machine_of, values_of}
use Rattle.filter.proofs.Emits.{values_few}
use Rattle.filter.proofs.Finals.{final_accepts, final_rejects}
use Rattle.steps.specs.declared.step.Side.{Side}
use Rattle.steps.specs.declared.step.Step.{Step}
use Rattle.steps.specs.Steps.{at, nodes_of, text}
use Rattle.steps.specs.Places.{steps_needed_lem}
use Rattle.steps.proofs.Texts.{text_short, texts_count}
use Rattle.steps.proofs.Placing.{place_room}
use Rattle.replay.specs.Replays.{output_by, whole_by, Stands, RoomFor, Attached, Agrees}
use Rattle.replay.specs.Sizes.{finals_of_lem, longest_of}
use Rattle.moves.proofs.Full.{most_least}
use Rattle.judging.specs.declared.frame.Frame.{Frame}
use Rattle.judging.specs.Frames.{Framed}
use Rattle.judging.specs.Kept.{Going, Turned}
use Rattle.equivalence.specs.Answers.{Early}
use Rattle.trying.proofs.Extending.{total_more}
use Rattle.judging.proofs.Judging.{step_attached}

-- what a side says of the whole output is so
whole_of : (M : Machine) (o : Option (ℕ × List ℕ)) → and_then (state_of o) (λ q. prefixed (output_of o) (M.final q)) ≡ and_then o (λ r. prefixed r.1 (M.final r.0))
whole_of M None = refl
whole_of M (Some r) = refl

module _ {G T : Type 0} (m : Model G T) (F : Table G T) where
  pub whole_is : (u t : List ℕ) (s : ℕ) (x : Side) → Stands m F u t s x → whole_by m F u s x ≡ transduced (machine_of m F) t
  unfolding whole_by
  whole_is u t s x S =
      ap (λ o. and_then o (λ q. prefixed (output_by m F u s x) ((machine_of m F).final q))) (sym S.state)
      ∙ ap (λ w. and_then (state_of (run (machine_of m F) t 0)) (λ q. prefixed w ((machine_of m F).final q))) (sym S.output)
      ∙ whole_of (machine_of m F) (run (machine_of m F) t 0)

  -- no final output is longer than the longest output
  pub final_few : (q : ℕ) (y : List ℕ) → (machine_of m F).final q ≡ Some y → length y ≤ longest_of F
  unfolding machine_of
  final_few q y e = go (slice_get F.states q) refl
    where
      go : (o : Option State) → slice_get F.states q ≡ o → length y ≤ longest_of F
      go None n =
          let none : ◌≡◌ {A = Option (List ℕ)} None (Some y) = ap (λ o. and_then o (λ (z : State). cond (eqb z.mark 1) (Some (values_of m (final_outputs F q) 0)) None)) (sym n) ∙ e in
          grind arith
      go (Some z) is = mark (eqb z.mark 1) refl
        where
          mark : (b : Bool) → eqb z.mark 1 ≡ b → length y ≤ longest_of F
          mark true f =
              let part = take z.finals (drop (final_total_of (take q F.states)) F.outputs) in
              let some : ◌≡◌ {A = Option (List ℕ)} (Some (values_of m part 0)) (Some y) = sym (final_accepts m F q z is (eqb-true z.mark 1 f)) ∙ e in
              let same : values_of m part 0 ≡ y = cc in
              omega (arith, ap length same, values_few m part 0, length-take z.finals (drop (final_total_of (take q F.states)) F.outputs), most_least finals_of_lem F.states q z is)
          mark false f =
              let none : ◌≡◌ {A = Option (List ℕ)} None (Some y) = sym (final_rejects m F q z is (eqb-false z.mark 1 f)) ∙ e in
              grind arith

module _ {G T : Type 0} (m : Model G T) (F H : Table G T) (f : Frame) (B : Framed F H f) (L : List Step) (C : List ℕ) (k : ℕ)
    (R : Turned m F H f.left f.right f.width L C k) where
  -- no step is left
  pub search_done : length L ≤ k → Told (machine_of m F) (machine_of m H) None
  search_done h = ready_done (machine_of m F) (machine_of m H) (texts (nodes_of L)) k R.ready (omega (arith, texts_count L))

  module _ (h : k < length L) where
    pub search_attached : Attached m F H L (at L k)
    search_attached = step_attached m F H f.left f.right f.width L C R.kept k h

    wide : k * f.width + f.width ≤ f.room
    wide =
        let few = place_room f.left f.right L C R.kept.placed in
        let near : k + 1 ≤ steps_needed_lem f.left f.right + 1 = omega arith in
        omega (arith, mul-le-mul_right f.width near, total_more F H f B k (omega arith), B.room)

    pub search_left : RoomFor m F (at L k).left f.room
    search_left = record {
      on_the_way = omega (arith, wide, R.kept.lefts k h);
      at_the_end = λ q y e. omega (arith, wide, R.kept.lefts k h, final_few m F q y e, B.wide_left);
    }

    pub search_right : RoomFor m H (at L k).right f.room
    search_right = record {
      on_the_way = omega (arith, wide, R.kept.rights k h);
      at_the_end = λ q y e. omega (arith, wide, R.kept.rights k h, final_few m H q y e, B.wide_right);
    }

    lefts : whole_by m F (text L (at L k).parent) (at L k).symbol (at L k).left ≡ transduced (machine_of m F) (text L k)
    lefts = whole_is m F (text L (at L k).parent) (text L k) (at L k).symbol (at L k).left (R.kept.tracks.left.stands k h)

    rights : whole_by m H (text L (at L k).parent) (at L k).symbol (at L k).right ≡ transduced (machine_of m H) (text L k)
    rights = whole_is m H (text L (at L k).parent) (text L k) (at L k).symbol (at L k).right (R.kept.tracks.right.stands k h)

    -- the text does not distinguish
    pub search_agreed : Agrees m F H L (at L k) → Going m F H f.left f.right f.width L C k 0
    unfolding text
    search_agreed e = record {
      kept = R.kept;
      way = ready_agreed (machine_of m F) (machine_of m H) (texts (nodes_of L)) k R.ready (omega (arith, texts_count L)) (sym lefts ∙ e ∙ rights);
    }

    -- it does
    pub search_found : (Agrees m F H L (at L k) → ⊥) → Told (machine_of m F) (machine_of m H) (Some (text L k))
    unfolding text
    search_found n = ready_found (machine_of m F) (machine_of m H) (texts (nodes_of L)) k R.ready (omega (arith, texts_count L)) (λ e. n (lefts ∙ e ∙ sym rights))

    pub search_early : Early (steps_needed_lem f.left f.right) L (Some k)
    search_early = (h, omega (arith, text_short L k, place_room f.left f.right L C R.kept.placed))
