-- The joined filter is sound wherever it is within the limits.
use Rattle.std.proofs.Common.{◌≡◌, ℕ, zero, suc, ◌<◌, ◌≤◌, true, false, ◌&&◌, List, [], ◌∷◌, map, length, get_or, Some, None, Option, sym, refl, ap, ◌∙◌, subst, arith}
use Rattle.std.specs.List.{slice_get, AllByRecursion}
use Rattle.std.proofs.ByRecursion.{All-weaker, All-map, All-from_get_or}
use Rattle.std.proofs.lemmas.List.{length-map, length-append}
use Rattle.std.proofs.lemmas.Bool.Decides.{nat_tests}
use Rattle.alphabet.specs.Model.{Model, SoundGuard}
use Rattle.alphabet.specs.Laws.{Lawful}
use Rattle.table.specs.declared.entries.State.{State}
use Rattle.table.specs.declared.entries.Rule.{Rule}
use Rattle.table.specs.Table.{Table, stretch, rule_outputs}
use Rattle.table.specs.Sound.{Sound, Suits, Constant}
use Rattle.table.proofs.Places.{at_each_from_all}
use Rattle.join_laws.specs.Lists.{gathered}
use Rattle.join_laws.specs.Lines.{Line, rule_of_lem, state_of, constants, table_from, fires}
use Rattle.join_laws.specs.Ways.{Way}
use Rattle.join_laws.specs.Pairs.{Pair}
use Rattle.join_laws.specs.Joined.{numbered, lines_for, ways_at, final_at, pairs, joined}
use Rattle.join_laws.specs.Theorems.{Limited}
use Rattle.join_laws.proofs.Firsts.{places_from_alone}
use Rattle.join_laws.proofs.Lines.{width, Fits, Good}
use Rattle.join_laws.proofs.Pairs.{Within, GoodWay, pair_fit, pair_apart}
use Rattle.join_laws.proofs.Places.{In, begins_length}
use Rattle.join_laws.proofs.Tables.{outputs_of_lem, nth_map, stretch_line, rule_total_lem, final_total_lem, stretch_finals, rule_outputs_lem, Symbols}
use Rattle.join_laws.proofs.Symbols.{finals_inside}
use Rattle.join_laws.proofs.Numbers.{lines_apart, lines_each}
use Rattle.join_laws.proofs.Composed.{pairs_taken, pairs_begin, ways_lead}

module _ {G T : Type 0} (m : Model G T) (law : Lawful m) where
  -- terms with values at every symbol of a sound guard suit it
  pub fits_suit : (g : G) (ts : List T) → SoundGuard m g → Fits m g ts → AllByRecursion (Suits m g) ts
  fits_suit g [] sg fits = tt
  fits_suit g (t ∷ ts) sg fits = (go (law.guard_some g sg), fits_suit g ts sg (λ s h. (fits s h).1))
    where
      go : (s : ℕ) × (m.holds g s ≡ true) → Suits m g t
      go (s, h) = ((fits s h).0.0, λ r k. (fits r k).0.1)

  constants_constant : (o : Option (List ℕ)) → Symbols m o → AllByRecursion (Constant m) (constants m o)
  constants_constant None h = tt
  constants_constant (Some w) h = go w h
    where
      go : (v : List ℕ) → AllByRecursion (λ c. c < m.size) v → AllByRecursion (Constant m) (map m.constant v)
      go [] all = tt
      go (c ∷ v) (k, all) = ((law.constant_sound c k, (c, λ s l. law.constant_value c s k l)), go v all)

  -- a table made of final outputs and good lines is sound within the limits
  module _ (fs : List (Option (List ℕ))) (ls : List (Line G T)) (some : 1 ≤ length fs) (symbols : AllByRecursion (Symbols m) fs) (good : Good m (length fs) ls) where
    states_all : (Q : State → Type 0) → ((o : Option (List ℕ)) → Q (state_of o)) → AllByRecursion Q (map state_of fs)
    states_all Q h = All-map Q state_of fs (go fs)
      where
        go : (os : List (Option (List ℕ))) → AllByRecursion (λ o. Q (state_of o)) os
        go [] = tt
        go (o ∷ os) = (h o, go os)

    mark_low : (o : Option (List ℕ)) → (state_of o).mark ≤ 1
    mark_low None = omega arith
    mark_low (Some w) = omega arith

    rejects_empty : (o : Option (List ℕ)) → (state_of o).mark ≡ 0 → (state_of o).finals ≡ 0
    rejects_empty None e = refl
    rejects_empty (Some w) e = absurd (omega arith)

    -- a fact about every rule, from its line
    rules_all : (Q : Rule G → Type 0) → AllByRecursion (λ l. Q (rule_of_lem l)) ls → (i : ℕ) (r : Rule G) → slice_get (map rule_of_lem ls) i ≡ Some r → Q r
    rules_all Q all = at_each_from_all Q (map rule_of_lem ls) (All-map Q rule_of_lem ls all)

    output_suits : (i : ℕ) (r : Rule G) → slice_get (map rule_of_lem ls) i ≡ Some r → AllByRecursion (Suits m r.guard) (rule_outputs (table_from m fs ls) i)
    output_suits i r e = go (nth_map rule_of_lem ls i r e)
      where
        go : (l : Line G T) × (slice_get ls i ≡ Some l) × (r ≡ rule_of_lem l) → AllByRecursion (Suits m r.guard) (rule_outputs (table_from m fs ls) i)
        go (l, at, is) =
            let sg = at_each_from_all (λ (k : Line G T). SoundGuard m k.guard) ls good.guards i l at in
            let fits = at_each_from_all (λ (k : Line G T). Fits m k.guard k.outputs) ls good.fits i l at in
            let outs : rule_outputs (table_from m fs ls) i ≡ l.outputs = ap (stretch width (map rule_of_lem ls) i) (rule_outputs_lem m fs ls) ∙ stretch_line ls i l at in
            subst (λ (x : Rule G). AllByRecursion (Suits m x.guard) (rule_outputs (table_from m fs ls) i)) (sym is)
            (subst (AllByRecursion (Suits m l.guard)) (sym outs) (fits_suit l.guard l.outputs sg fits))

    rules_apart : (i j : ℕ) (r e : Rule G) → i < j → slice_get (map rule_of_lem ls) i ≡ Some e → slice_get (map rule_of_lem ls) j ≡ Some r → e.state ≡ r.state → (s : ℕ)
        → (m.holds e.guard s && m.holds r.guard s) ≡ false
    rules_apart i j r e before at_i at_j same s = both (nth_map rule_of_lem ls i e at_i) (nth_map rule_of_lem ls j r at_j)
      where
        both : (l : Line G T) × (slice_get ls i ≡ Some l) × (e ≡ rule_of_lem l) → (k : Line G T) × (slice_get ls j ≡ Some k) × (r ≡ rule_of_lem k) → (m.holds e.guard s && m.holds r.guard s) ≡ false
        both (l, a, b) (k, c, d) =
            let z = places_from_alone (fires m e.state s) ls (good.apart e.state s) i j l k before a c in
            let p : l.state ≡ e.state = cc in
            let q : k.state ≡ e.state = cc in
            let u : m.holds l.guard s ≡ m.holds e.guard s = cc in
            let v : m.holds k.guard s ≡ m.holds r.guard s = cc in
            grind (arith, nat_tests)

    pub table_sound : Limited (table_from m fs ls) → Sound m (table_from m fs ls)
    table_sound lim = record {
      some_state = simp length-map some;
      few_states = lim.states;
      few_rules = lim.rules;
      few_outputs = lim.outputs;
      mark = at_each_from_all (λ (s : State). s.mark ≤ 1) (map state_of fs) (states_all (λ (s : State). s.mark ≤ 1) mark_low);
      short_final = at_each_from_all (λ (s : State). s.finals ≤ 32) (map state_of fs) lim.finals;
      no_final = at_each_from_all (λ (s : State). s.mark ≡ 0 → s.finals ≡ 0) (map state_of fs) (states_all (λ (s : State). s.mark ≡ 0 → s.finals ≡ 0) rejects_empty);
      from = rules_all (λ (r : Rule G). r.state < length (map state_of fs)) (simp length-map good.from);
      to = rules_all (λ (r : Rule G). r.next < length (map state_of fs)) (simp length-map good.to);
      guard = rules_all (λ (r : Rule G). SoundGuard m r.guard) good.guards;
      short_output = at_each_from_all (λ (r : Rule G). r.outputs ≤ 32) (map rule_of_lem ls) lim.pieces;
      counts = omega (arith, length-append (gathered (constants m) fs) (gathered outputs_of_lem ls), final_total_lem m fs, rule_total_lem ls);
      final = λ q. subst (AllByRecursion (Constant m)) (sym (stretch_finals m fs (gathered outputs_of_lem ls) q)) (constants_constant (get_or fs q None) (symbols_at q));
      output = output_suits;
      apart = rules_apart;
    }
      where
        symbols_at : (q : ℕ) → Symbols m (get_or fs q None)
        symbols_at q = go fs q symbols
          where
            go : (os : List (Option (List ℕ))) (i : ℕ) → AllByRecursion (Symbols m) os → Symbols m (get_or os i None)
            go [] i all = tt
            go (o ∷ os) zero all = all.0
            go (o ∷ os) (suc i) all = go os i all.1

  module _ (F H : Table G T) (ok_f : Sound m F) (ok_h : Sound m H) where
    -- the ways of all pairs are good
    ways_good : AllByRecursion (λ x. AllByRecursion (GoodWay m law F H ok_f ok_h) (ways_at m F H x)) (pairs m F H)
    ways_good =
        All-weaker (Within (length F.states) (length H.states)) (λ x. AllByRecursion (GoodWay m law F H ok_f ok_h) (ways_at m F H x))
        (λ x w. pair_fit m law F H ok_f ok_h x w.1) (pairs m F H) (pairs_taken m law F H ok_f ok_h).within

    lines_good : Good m (length (pairs m F H)) (lines_for (ways_at m F H) (pairs m F H) 0 (pairs m F H))
    lines_good = record {
      from = each (λ l. l.state < n) (λ x. Unit {0}) (λ i x h _. always i h (ways_at m F H x)) (nothing P);
      to = each (λ l. l.next < n) (λ x. AllByRecursion (λ (w : Way G T Pair). In P w.to) (ways_at m F H x)) (λ i x h c. c) leads;
      guards = each (λ l. SoundGuard m l.guard) (λ x. AllByRecursion (GoodWay m law F H ok_f ok_h) (ways_at m F H x))
          (λ i x h c. All-weaker (GoodWay m law F H ok_f ok_h) (λ (w : Way G T Pair). SoundGuard m w.guard) (λ w k. k.0) (ways_at m F H x) c) ways_good;
      fits = each (λ l. Fits m l.guard l.outputs) (λ x. AllByRecursion (GoodWay m law F H ok_f ok_h) (ways_at m F H x))
          (λ i x h c. All-weaker (GoodWay m law F H ok_f ok_h) (λ (w : Way G T Pair). Fits m w.guard w.outputs) (λ w k. k.2) (ways_at m F H x) c) ways_good;
      apart = λ q s. lines_apart m (ways_at m F H) P P q 0 s (λ x. pair_apart m law F H ok_f ok_h x s);
    }
      where
        P : List Pair
        P = pairs m F H

        n : ℕ
        n = length (pairs m F H)

        each : (R : Line G T → Type 0) (C : Pair → Type 0) → ((i : ℕ) (x : Pair) → i < length P → C x → AllByRecursion (λ w. R (numbered P i w)) (ways_at m F H x)) → AllByRecursion C P → AllByRecursion R (lines_for (ways_at m F H) P 0 P)
        each R C h all = lines_each m (ways_at m F H) P R C (length P) h P 0 all (omega arith)

        always : (i : ℕ) → i < n → (ws : List (Way G T Pair)) → AllByRecursion (λ (w : Way G T Pair). i < n) ws
        always i h [] = tt
        always i h (w ∷ ws) = (h, always i h ws)

        nothing : (xs : List Pair) → AllByRecursion (λ x. Unit {0}) xs
        nothing [] = tt
        nothing (x ∷ xs) = (tt, nothing xs)

        leads : AllByRecursion (λ x. AllByRecursion (λ (w : Way G T Pair). In P w.to) (ways_at m F H x)) P
        leads = All-from_get_or (λ x. AllByRecursion (λ (w : Way G T Pair). In P w.to) (ways_at m F H x)) P (0, 0) (ways_lead m law F H ok_f ok_h)

    pub joined_sound : Limited (joined m F H) → Sound m (joined m F H)
    unfolding joined
    joined_sound lim =
        let P = pairs m F H in
        table_sound (map (final_at m F H) P) (lines_for (ways_at m F H) P 0 P) (simp length-map (begins_length ((0, 0) ∷ []) P (pairs_begin m law F H ok_f ok_h)))
        (All-map (Symbols m) (final_at m F H) P (each P)) (simp length-map lines_good) lim
      where
        each : (xs : List Pair) → AllByRecursion (λ x. Symbols m (final_at m F H x)) xs
        each [] = tt
        each (x ∷ xs) = (finals_inside m law F H ok_h x, each xs)
