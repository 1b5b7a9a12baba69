-- Symbols that are not worth trying are idle.
use Rattle.std.proofs.Common.{◌≡◌, ℕ, ◌-◌, ◌<◌, false, not, ◌&&◌, ◌⊎◌, is_some, Some, None, Option, sym, refl, ap, ◌∙◌, inl, inr, arith}
use Rattle.std.proofs.lemmas.Bool.{both_ways, and_cases, and_parts, or_parts, or_from, not-false}
use Rattle.machine.specs.Machine.{Machine}
use Rattle.machine.specs.Covered.{Idle}
use Rattle.machine.specs.Sides.{onward}
use Rattle.machine.proofs.Idles.{idle_dead, idle_half, idle_class}
use Rattle.alphabet.specs.Model.{Model}
use Rattle.alphabet.specs.Laws.{Lawful}
use Rattle.alphabet.specs.Questions.{LeastFrom}
use Rattle.table.specs.Table.{Table}
use Rattle.table.specs.Sound.{Sound}
use Rattle.filter.specs.Machines.{machine_of}
use Rattle.classes.specs.Runs.{rule_at_lem, holds_any, thrice, held, worth}
use Rattle.classes.specs.Guided.{Guided, Below}
use Rattle.classes.proofs.Terms.{term_laws}
use Rattle.classes.proofs.Picks.{held_rule}
use Rattle.classes.proofs.Moves.{next_of, onward_rule, outputs_sound, rule_uses}
use Rattle.classes.proofs.Rules.{none_held}
use Rattle.classes.proofs.Worth.{Thrice, thrice_says}

-- a rule holds only symbols
held_inside : {G T : Type 0} (m : Model G T) (F : Table G T) → Sound m F → Lawful m → (l : Option ℕ) (s i : ℕ) → rule_at_lem m F l s ≡ Some i → s < 2097152
held_inside m F S laws l s i e =
    let K = held_rule m F l s i e in
    let inside = laws.guard_inside K.rule.guard s (S.guard i K.rule K.is) K.holds in
    omega (arith, laws.size_high)

module _ {G T : Type 0} (m : Model G T) (laws : Lawful m) (F H : Table G T) (S : Sound m F) (R : Sound m H) where
  -- the machines of the two filters
  abbrev a : Machine
  a = machine_of m F

  abbrev b : Machine
  b = machine_of m H

  -- a symbol of no rule
  idle_unheld : (l r : Option ℕ) (s : ℕ) → rule_at_lem m F l s ≡ None → rule_at_lem m H r s ≡ None → Idle a b l r s
  idle_unheld l r s e k = idle_dead a b l r s (onward_rule m F l s ∙ ap (next_of m F) e) (onward_rule m H r s ∙ ap (next_of m H) k)

  module _ (l r : Option ℕ) (s : ℕ) (t : Thrice (rule_at_lem m F l) s) (u : Thrice (rule_at_lem m H r) s) where
    -- a side has no rule
    idle_one : (rule_at_lem m F l s ≡ None) ⊎ (rule_at_lem m H r s ≡ None) → Idle a b l r s
    idle_one none =
        idle_half a b l r (s - 1) s (omega (arith, t.third))
        (onward_rule m F l (s - 1) ∙ ap (next_of m F) t.one ∙ sym (onward_rule m F l s))
        (onward_rule m H r (s - 1) ∙ ap (next_of m H) u.one ∙ sym (onward_rule m H r s))
        (dead none)
      where
        dead : (rule_at_lem m F l s ≡ None) ⊎ (rule_at_lem m H r s ≡ None) → (onward a l s ≡ None) ⊎ (onward b r s ≡ None)
        dead (inl e) = inl (onward_rule m F l s ∙ ap (next_of m F) e)
        dead (inr e) = inr (onward_rule m H r s ∙ ap (next_of m H) e)

  -- each side has the rule of two smaller symbols
  idle_both : (l r : Option ℕ) (s i j : ℕ) → Thrice (rule_at_lem m F l) s → Thrice (rule_at_lem m H r) s → rule_at_lem m F l s ≡ Some i → rule_at_lem m H r s ≡ Some j → Idle a b l r s
  idle_both None r s i j t u e k = grind arith
  idle_both (Some p) None s i j t u e k = grind arith
  idle_both (Some p) (Some q) s i j t u e k =
      let A = held_rule m F (Some p) s i e in
      let B = held_rule m H (Some q) s j k in
      idle_class (term_laws m laws) a b (outputs_sound m F S i A.rule A.is) (outputs_sound m H R j B.rule B.is)
      (s - 2) (s - 1) s (omega (arith, t.third)) (omega (arith, t.third))
      (rule_uses m F S p (s - 2) i A.rule A.is (t.two ∙ e)) (rule_uses m H R q (s - 2) j B.rule B.is (u.two ∙ k))
      (rule_uses m F S p (s - 1) i A.rule A.is (t.one ∙ e)) (rule_uses m H R q (s - 1) j B.rule B.is (u.one ∙ k))
      (rule_uses m F S p s i A.rule A.is e) (rule_uses m H R q s j B.rule B.is k)

  -- a symbol behind two others of its run
  idle_thrice : (l r : Option ℕ) (s : ℕ) → Thrice (rule_at_lem m F l) s → Thrice (rule_at_lem m H r) s → Idle a b l r s
  idle_thrice l r s t u = go (rule_at_lem m F l s) (rule_at_lem m H r s) refl refl
    where
      go : (x y : Option ℕ) → rule_at_lem m F l s ≡ x → rule_at_lem m H r s ≡ y → Idle a b l r s
      go None y e k = idle_one l r s t u (inl e)
      go (Some i) None e k = idle_one l r s t u (inr k)
      go (Some i) (Some j) e k = idle_both l r s i j t u e k

  module _ (l r : Option ℕ) where
    pub idle_worthless : (s : ℕ) → worth (rule_at_lem m F l) (rule_at_lem m H r) s ≡ false → Idle a b l r s
    idle_worthless s e = go (and_cases (held f g s) (not (thrice f s && thrice g s)) e)
      where
        f : ℕ → Option ℕ
        f = rule_at_lem m F l

        g : ℕ → Option ℕ
        g = rule_at_lem m H r

        go : (held f g s ≡ false) ⊎ (not (thrice f s && thrice g s) ≡ false) → Idle a b l r s
        go (inl none) =
            let p = or_parts (holds_any f s) (holds_any g s) none in
            idle_unheld l r s (none_held (f s) p.0) (none_held (g s) p.1)
        go (inr behind) =
            let p = and_parts (thrice f s) (thrice g s) (not-false (thrice f s && thrice g s) behind) in
            idle_thrice l r s (thrice_says f s p.0) (thrice_says g s p.1)

    pub guided_least : (n : ℕ) (o : Option ℕ) → LeastFrom (worth (rule_at_lem m F l) (rule_at_lem m H r)) n o → Guided a b l r n o
    guided_least n None h = λ s from. idle_worthless s (h s from)
    guided_least n (Some c) h = (h.0, λ s from below. idle_worthless s (h.2 s from below))

    pub below_least : (n : ℕ) (o : Option ℕ) → LeastFrom (worth (rule_at_lem m F l) (rule_at_lem m H r)) n o → Below 2097152 o
    below_least n None h = tt
    below_least n (Some c) h = go (rule_at_lem m F l c) (rule_at_lem m H r c) refl refl
      where
        go : (x y : Option ℕ) → rule_at_lem m F l c ≡ x → rule_at_lem m H r c ≡ y → c < 2097152
        go (Some i) y e k = held_inside m F S laws l c i e
        go None (Some j) e k = held_inside m H R laws r c j k
        go None None e k =
            let some = (and_parts (held (rule_at_lem m F l) (rule_at_lem m H r) c) (not (thrice (rule_at_lem m F l) c && thrice (rule_at_lem m H r) c)) h.1).0 in
            absurd (both_ways (held (rule_at_lem m F l) (rule_at_lem m H r) c) (or_from (holds_any (rule_at_lem m F l) c) (holds_any (rule_at_lem m H r) c) (ap is_some e) (ap is_some k)) some)

    -- what the least symbol that is worth trying tells
    pub told : (n : ℕ) (o : Option ℕ) → LeastFrom (worth (rule_at_lem m F l) (rule_at_lem m H r)) n o
        → record { least : LeastFrom (worth (rule_at_lem m F l) (rule_at_lem m H r)) n o; guided : Guided a b l r n o; bound : Below 2097152 o }
    told n o h = record { least = h; guided = guided_least n o h; bound = below_least n o h }
