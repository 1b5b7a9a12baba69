-- When the text of a step is covered by the steps that are there.
use Rattle.std.proofs.Common.{◌≡◌, ℕ, ◌+◌, ◌*◌, ◌<◌, ◌≤◌, true, false, ◌⊎◌, List, [], ◌∷◌, ◌++◌, length, is_some, Some, None, Option, sym, refl, ap, ◌∙◌, inl, inr, mul-le-mul_right, arith}
use Rattle.machine.specs.Machine.{run}
use Rattle.machine.specs.Sides.{output_of, Arrives}
use Rattle.machine.specs.Shortlex.{Earlier}
use Rattle.machine.specs.Covered.{Covered}
use Rattle.machine.specs.Lag.{lag, lag_of}
use Rattle.machine.proofs.Covers.{covered_half, covered_same, covered_two}
use Rattle.alphabet.specs.Model.{Model}
use Rattle.table.specs.Table.{Table}
use Rattle.filter.specs.Machines.{machine_of}
use Rattle.steps.specs.declared.step.Visit.{Visit}
use Rattle.steps.specs.declared.step.Visit.TheVariants.{First, Second}
use Rattle.steps.specs.declared.step.Step.{Step}
use Rattle.steps.specs.Steps.{at, text}
use Rattle.steps.specs.Places.{steps_needed_lem, place_of, place_at, Proper, Found}
use Rattle.steps.proofs.Texts.{texts_count}
use Rattle.steps.proofs.Placing.{place_same, place_room}
use Rattle.steps.specs.declared.step.Hand.TheVariants.{Left}
use Rattle.replay.specs.Replays.{output_by, lag_by, Attached}
use Rattle.replay.proofs.Outputs.{parent_le}
use Rattle.moves.specs.Moves.{Known}
use Rattle.judging.specs.Frames.{both_live_lem, both_dead_lem}
use Rattle.judging.specs.Kept.{Mate, Kept, Going, Extends, text_by}

-- states that are there, not both dead: a first visit
pub proper_first : (p q : ℕ) (l r : Option ℕ) → Known p l → Known q r → both_dead_lem l r ≡ false → Proper p q l r First
proper_first p q None None h k e = grind arith
proper_first p q None (Some r) h k e = k
proper_first p q (Some l) None h k e = h
proper_first p q (Some l) (Some r) h k e = (h, k)

-- both alive: a second visit
pub proper_again : (p q : ℕ) (l r : Option ℕ) → Known p l → Known q r → both_live_lem l r ≡ true → Proper p q l r Second
proper_again p q None None h k e = grind arith
proper_again p q None (Some r) h k e = grind arith
proper_again p q (Some l) None h k e = grind arith
proper_again p q (Some l) (Some r) h k e = (h, k)

-- not both alive: a side is dead
half_dead : (l r : Option ℕ) → both_live_lem l r ≡ false → (l ≡ None) ⊎ (r ≡ None)
half_dead None r e = inl refl
half_dead (Some l) None e = inr refl
half_dead (Some l) (Some r) e = grind arith

-- a step is found, or none
pub found_some : (p q n : ℕ) (L : List Step) (o : Option ℕ) → is_some o ≡ true → Found p q L n o → (i : ℕ) × (i < length L) × (place_at p q (at L i) ≡ n)
found_some p q n L None e h = grind arith
found_some p q n L (Some i) e h = (i, h.0, h.1)

pub found_none : (p q n : ℕ) (L : List Step) (o : Option ℕ) → is_some o ≡ false → Found p q L n o → Found p q L n None
found_none p q n L None e h = h
found_none p q n L (Some i) e h = grind arith

module _ {G T : Type 0} (m : Model G T) (F H : Table G T) (p q w : ℕ) (L : List Step) (C : List ℕ) where
  module _ (K : Kept m F H p q w L C) where
    -- where the filters stand after the text of a step
    pub step_arrives : (i : ℕ) → i < length L → Arrives (machine_of m F) (machine_of m H) (text L i) (at L i).left.state (at L i).right.state
    step_arrives i h = ((K.tracks.left.stands i h).state, (K.tracks.right.stands i h).state)

    -- what a step says of the lag is so
    pub step_lag : (i : ℕ) → i < length L → lag_by m F H L (at L i) ≡ lag_of (machine_of m F) (machine_of m H) (text L i)
    unfolding lag_by
    step_lag i h =
        ap (λ t. lag t (output_by m H (text L (at L i).parent) (at L i).symbol (at L i).right)) (sym (K.tracks.left.stands i h).output)
        ∙ ap (lag (output_of (run (machine_of m F) (text L i) 0))) (sym (K.tracks.right.stands i h).output)

    -- a step in the list goes on from one in the list
    pub step_attached : (i : ℕ) → i < length L → Attached m F H L (at L i)
    step_attached i h = record {
      above = omega (arith, parent_le m F Left L K.tracks.tree K.tracks.left i h);
      left = (K.tracks.left.stands i h).sits;
      right = (K.tracks.right.stands i h).sits;
    }

    -- a step with the place of a pair leads to the pair
    pair_arrives : (l r : Option ℕ) (v : Visit) → Proper p q l r v → (i : ℕ) → i < length L → place_at p q (at L i) ≡ place_of p q l r v
        → Arrives (machine_of m F) (machine_of m H) (text L i) l r × ((at L i).visit ≡ v)
    pair_arrives l r v P i h e =
        let s = place_same p q (at L i).left.state (at L i).right.state l r (at L i).visit v (K.placed.proper i h) P e in
        let a = step_arrives i h in
        ((a.0 ∙ s.0, a.1 ∙ s.1), s.2)

  module _ (x : Step) (E : Extends m F H p q w L x) where
    pub next_arrives : Arrives (machine_of m F) (machine_of m H) (text_by m F H p q w L x) x.left.state x.right.state
    next_arrives = (E.left.state, E.right.state)

    pub next_lag : lag_by m F H L x ≡ lag_of (machine_of m F) (machine_of m H) (text_by m F H p q w L x)
    unfolding lag_by
    next_lag =
        ap (λ t. lag t (output_by m H (text L x.parent) x.symbol x.right)) (sym E.left.output)
        ∙ ap (lag (output_of (run (machine_of m F) (text_by m F H p q w L x) 0))) (sym E.right.output)

    pub next_attached : Attached m F H L x
    next_attached = record { above = E.above; left = E.left.sits; right = E.right.sits }

    module _ (K : Kept m F H p q w L C) (earlier : (i : ℕ) → i < length L → Earlier (text L i) (text_by m F H p q w L x)) (i : ℕ) (h : i < length L) where
      -- the pair was visited, and a side is dead
      pub judged_half : Proper p q x.left.state x.right.state First → place_at p q (at L i) ≡ place_of p q x.left.state x.right.state First
          → both_live_lem x.left.state x.right.state ≡ false → Covered (machine_of m F) (machine_of m H) (text_by m F H p q w L x)
      judged_half P e dead =
          covered_half (machine_of m F) (machine_of m H) (text_by m F H p q w L x) (text L i) x.left.state x.right.state (half_dead x.left.state x.right.state dead)
          next_arrives (pair_arrives K x.left.state x.right.state First P i h e).0 (earlier i h)

      -- the pair was visited with the same lag
      pub judged_same : Proper p q x.left.state x.right.state Second → Proper p q x.left.state x.right.state First → place_at p q (at L i) ≡ place_of p q x.left.state x.right.state First
          → lag_by m F H L (at L i) ≡ lag_by m F H L x → Covered (machine_of m F) (machine_of m H) (text_by m F H p q w L x)
      judged_same A P e same =
          go x.left.state x.right.state A next_arrives (pair_arrives K x.left.state x.right.state First P i h e).0
        where
          go : (l r : Option ℕ) → Proper p q l r Second → Arrives (machine_of m F) (machine_of m H) (text_by m F H p q w L x) l r → Arrives (machine_of m F) (machine_of m H) (text L i) l r
              → Covered (machine_of m F) (machine_of m H) (text_by m F H p q w L x)
          go None None A a b = absurd A
          go None (Some r) A a b = absurd A
          go (Some l) None A a b = absurd A
          go (Some l) (Some r) A a b =
              covered_same (machine_of m F) (machine_of m H) (text_by m F H p q w L x) (text L i) l r a b (sym next_lag ∙ sym same ∙ step_lag K i h) (earlier i h)

      -- the pair was visited twice
      pub judged_twice : Proper p q x.left.state x.right.state Second → Proper p q x.left.state x.right.state First → place_at p q (at L i) ≡ place_of p q x.left.state x.right.state Second
          → Covered (machine_of m F) (machine_of m H) (text_by m F H p q w L x)
      judged_twice A P e =
          let s = place_same p q (at L i).left.state (at L i).right.state x.left.state x.right.state (at L i).visit Second (K.placed.proper i h) A e in
          go x.left.state x.right.state A P next_arrives (pair_arrives K x.left.state x.right.state Second A i h e).0 s.0 s.1 (K.mates i h s.2)
        where
          go : (l r : Option ℕ) → Proper p q l r Second → Proper p q l r First → Arrives (machine_of m F) (machine_of m H) (text_by m F H p q w L x) l r → Arrives (machine_of m F) (machine_of m H) (text L i) l r
              → (at L i).left.state ≡ l → (at L i).right.state ≡ r → Mate m F H p q w L (text L i) (at L i).left.state (at L i).right.state
              → Covered (machine_of m F) (machine_of m H) (text_by m F H p q w L x)
          go None None A P a b c d M = absurd A
          go None (Some r) A P a b c d M = absurd A
          go (Some l) None A P a b c d M = absurd A
          go (Some l) (Some r) A P a b c d (j, k, f, other) =
              let e = f ∙ ap (λ o. place_of p q o (at L i).right.state First) c ∙ ap (λ o. place_of p q (Some l) o First) d in
              covered_two (machine_of m F) (machine_of m H) (text_by m F H p q w L x) (text L j) (text L i) l r a (pair_arrives K (Some l) (Some r) First P j k e).0 b other (earlier j k) (earlier i h)

  -- each text of the list is earlier than the next one
  pub next_earlier : (k s : ℕ) → Going m F H p q w L C k s → (i : ℕ) → i < length L → Earlier (text L i) (text L k ++ (s ∷ []))
  unfolding text
  next_earlier k s D i h = D.way.last i (omega (arith, texts_count L))

  -- the outputs of a step have room
  pub step_room : Kept m F H p q w L C → (i n : ℕ) → i < length L → n ≤ i * w → n ≤ (steps_needed_lem p q + 1) * w
  step_room K i n h k = let few = place_room p q L C K.placed in
      let less : i ≤ steps_needed_lem p q + 1 = omega arith in
      omega (arith, mul-le-mul_right w less)
