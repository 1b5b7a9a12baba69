-- Trying a symbol: the longer text is covered, or a step is made for it.
use Rattle.std.proofs.Common.{◌≡◌, ℕ, ◌+◌, ◌<◌, ◌≤◌, true, cond, ltb, List, [], ◌∷◌, ◌++◌, length, set, Some, None, Ok, Err, Option, Result, sym, refl, ap, ◌∙◌, subst, arith}
use Rattle.std.proofs.lemmas.List.{get_or_append_left}
use Rattle.std.proofs.lemmas.Bool.{lt-ltb}
use Rattle.machine.specs.Sides.{Arrives}
use Rattle.machine.specs.Covered.{Covered}
use Rattle.machine.proofs.Covers.{covered_dead}
use Rattle.alphabet.specs.Model.{Model}
use Rattle.table.specs.Table.{Table}
use Rattle.filter.specs.Machines.{machine_of}
use Rattle.steps.specs.declared.step.Visit.{Visit}
use Rattle.steps.specs.declared.step.Step.{Step}
use Rattle.steps.specs.Steps.{blank, at, text}
use Rattle.steps.specs.Places.{steps_needed_lem, place_of}
use Rattle.steps.proofs.Placing.{place_below}
use Rattle.steps.proofs.Texts.{texts_count}
use Rattle.classes.specs.Guided.{Guided}
use Rattle.judging.specs.Frames.{both_dead_lem}
use Rattle.judging.specs.Kept.{Going, Turned, Extends, Judged, text_by}
use Rattle.trying.proofs.Growing.{marked, going_past, going_push, push_room, going_skip, going_turned}
use Rattle.judging.proofs.Judging.{step_arrives}

dead_both : (l r : Option ℕ) → both_dead_lem l r ≡ true → (l ≡ None) × (r ≡ None)
dead_both None None e = (refl, refl)
dead_both None (Some r) e = grind arith
dead_both (Some l) r e = grind arith

-- a number that a queue with a spare slot gave
pub number_given : {X : Type 0} (a b n : ℕ) (e : X) → a < b → Ok n ≡ cond (ltb a b) (Ok a) (Err e) → n ≡ a
number_given {X} a b n e h f =
    let t = lt-ltb a b h in
    let g : ◌≡◌ {A = Result ℕ X} (Ok n) (Ok a) = f ∙ ap (λ v. cond v (Ok a) (Err e)) t in cc

-- a queue with a spare slot refuses nothing
pub number_refused : {X : Type 0} (a b : ℕ) (d e : X) → a < b → Err d ≡ cond (ltb a b) (Ok a) (Err e) → ⊥
number_refused {X} a b d e h f =
    let t = lt-ltb a b h in
    let g : ◌≡◌ {A = Result ℕ X} (Err d) (Ok a) = f ∙ ap (λ v. cond v (Ok a) (Err e)) t in grind arith

module _ {G T : Type 0} (m : Model G T) (F H : Table G T) (p q w : ℕ) (L : List Step) (C : List ℕ) (k s : ℕ) (D : Going m F H p q w L C k s) where
  -- the step is there
  pub going_within : k < length L
  going_within = omega (arith, texts_count L, D.way.within)

  module _ (x : Step) (pk : x.parent ≡ k) (ps : x.symbol ≡ s) (E : Extends m F H p q w L x) where
    -- the same by the step that may be made
    pub going_next : Going m F H p q w L C x.parent x.symbol
    going_next = subst (λ o. Going m F H p q w L C x.parent o) (sym ps) (subst (λ o. Going m F H p q w L C o s) (sym pk) D)

    back : (M : List Step) (B : List ℕ) → Going m F H p q w M B x.parent (x.symbol + 1) → Going m F H p q w M B k (s + 1)
    back M B g = subst (λ o. Going m F H p q w M B k (o + 1)) ps (subst (λ o. Going m F H p q w M B o (x.symbol + 1)) pk g)

    pub covered_step : Covered (machine_of m F) (machine_of m H) (text_by m F H p q w L x) → Going m F H p q w L C k (s + 1)
    covered_step covered = back L C (going_past m F H p q w L C x.parent x.symbol going_next covered)

    pub dead_step : both_dead_lem x.left.state x.right.state ≡ true → Going m F H p q w L C k (s + 1)
    dead_step e =
        let n = dead_both x.left.state x.right.state e in
        covered_step (covered_dead (machine_of m F) (machine_of m H) (text_by m F H p q w L x) (E.left.state ∙ n.0, E.right.state ∙ n.1))

    module _ (visit : Visit) (J : Judged m F H p q w L x (Some visit)) (cells : steps_needed_lem p q ≤ length C) where
      pub place_within : place_of p q x.left.state x.right.state visit < length C
      place_within = omega (arith, place_below p q x.left.state x.right.state visit J.0)

      pub slot_left : length L < steps_needed_lem p q
      slot_left = push_room m F H p q w L C D.kept x E visit J.0 place_within J.1 J.2

      pub made_step : Going m F H p q w (L ++ (marked m F H p q w L C x visit ∷ [])) (set C (place_of p q x.left.state x.right.state visit) (length L)) k (s + 1)
      made_step = back _ _ (going_push m F H p q w L C D.kept x E visit J.0 place_within J.1 J.2 going_next)

      pub step_stays : at (L ++ (marked m F H p q w L C x visit ∷ [])) k ≡ at L k
      step_stays = get_or_append_left L (marked m F H p q w L C x visit ∷ []) blank k going_within

  -- where the filters stand at the step
  here : (x : Step) → x ≡ at L k → Arrives (machine_of m F) (machine_of m H) (text L k) x.left.state x.right.state
  here x e =
      let a = step_arrives m F H p q w L C D.kept k going_within in
      (a.0 ∙ ap (λ (z : Step). z.left.state) (sym e), a.1 ∙ ap (λ (z : Step). z.right.state) (sym e))

  -- the symbols up to the next one worth trying are left out
  pub going_reach : (x : Step) → x ≡ at L k → (c : ℕ) → Guided (machine_of m F) (machine_of m H) x.left.state x.right.state s (Some c) → Going m F H p q w L C k c
  going_reach x e c g = going_skip m F H p q w L C k s c D g.0 (λ n h l. g.1 n h l (text L k) (here x e))

  -- and so are all, where none is
  pub going_end : (x : Step) → x ≡ at L k → Guided (machine_of m F) (machine_of m H) x.left.state x.right.state s None → Turned m F H p q w L C (k + 1)
  going_end x e g = going_turned m F H p q w L C k s D (λ n h. g n h (text L k) (here x e))
