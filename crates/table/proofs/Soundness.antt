-- A table is sound exactly where the check finds no fault.
use Rattle.std.proofs.Common.{◌≡◌, ℕ, suc, ◌+◌, ◌≤◌, List, [], ◌∷◌, ◌++◌, length, take, drop, Ok, sym, refl, ◌∙◌, arith}
use Rattle.std.specs.List.{AllByRecursion}
use Rattle.std.proofs.lemmas.List.{append-nil, append_assoc}
use Rattle.std.proofs.lemmas.Bool.Decides.{nat_tests, Decides-eqb}
use Rattle.alphabet.specs.declared.cause.Cause.TheVariants.{NotSuiting}
use Rattle.alphabet.specs.Model.{Model, SoundGuard}
use Rattle.alphabet.specs.Laws.{Lawful}
use Rattle.table.specs.declared.entries.State.{State}
use Rattle.table.specs.declared.entries.Rule.{Rule}
use Rattle.table.specs.declared.fault.TableFault.TheVariants.{OutputCount, NotConstant, UnsoundOutput, Overlap}
use Rattle.table.specs.Table.{Table, stretch, final_total_of, rule_total_of, all_rule_outputs}
use Rattle.table.specs.Check.{Checked, next, limits_of, check_state_lem, SoundGuards, check_final_lem, check_output_lem, check_rule_outputs_lem, check_overlaps_lem, checked}
use Rattle.table.specs.Sound.{Constant, Suits, Sound}
use Rattle.table.proofs.Accepts.{Accepts, accepts_like, accepts_next, accepts_unless, accepts_map_err, accepts_each}
use Rattle.table.proofs.Decided.{Apart, decides_constant, decides_suits, decides_clashes}
use Rattle.table.proofs.Places.{AtEach, at_each_none, at_each_more, at_each_from_all, all_from_at_each, at_front, all_front}
use Rattle.table.proofs.Rules.{GoodRule, accepts_rules, good_guards}
use Rattle.table.proofs.Stretches.{all_stretch, all_from_stretches}

-- the sizes of a table are within the limits
abbrev Few : ℕ → ℕ → ℕ → Type 0
Few states rules outputs = (1 ≤ states) × (states ≤ 64) × (rules ≤ 1024) × (outputs ≤ 4096)

accepts_limits : (states rules outputs : ℕ) → Accepts (limits_of states rules outputs) (Few states rules outputs)
accepts_limits states rules outputs = (λ e. grind (arith, nat_tests), λ few. grind (arith, nat_tests))

abbrev GoodState : State → Type 0
GoodState s = (s.mark ≤ 1) × (s.finals ≤ 32) × (s.mark ≡ 0 → s.finals ≡ 0)

accepts_state : (q : ℕ) (s : State) → Accepts (check_state_lem q s) (GoodState s)
accepts_state q s = (λ e. grind (arith, nat_tests), λ good. grind (arith, nat_tests))

-- a check of the first item and a check of the others, of a fact about places
accepts_places : {X : Type 0} (Q : ℕ → X → Type 0) (x : X) (xs : List X) (a b : Checked) → Accepts a (Q 0 x) → Accepts b (AtEach (λ i. Q (suc i)) xs) → Accepts (next a b) (AtEach Q (x ∷ xs))
accepts_places Q x xs a b here later =
    accepts_like (next a b) (λ p. at_each_more Q x xs p.0 p.1) (λ all. (all 0 x refl, λ i. all (suc i))) (accepts_next a b here (λ _. later))

module _ {G T : Type 0} (m : Model G T) where
  -- the outputs of the rule r, which stands at i, suit its guard
  abbrev SuitsAt : List (Rule G) → List T → ℕ → Rule G → Type 0
  SuitsAt rules ts i r = AllByRecursion (Suits m r.guard) (stretch (λ (x : Rule G). x.outputs) rules i ts)

  -- the rule r, which stands at j, is apart from all before it
  abbrev ApartAt : List (Rule G) → List (Rule G) → ℕ → Rule G → Type 0
  ApartAt before rules j r = AllByRecursion (Apart m r) (before ++ take j rules)

  -- what each part of the check accepts
  abbrev Parts : Table G T → Type 0
  Parts F =
      Few (length F.states) (length F.rules) (length F.outputs)
      × (AllByRecursion GoodState F.states
      × (AllByRecursion (GoodRule m (length F.states)) F.rules
      × ((length F.outputs ≡ final_total_of F.states + rule_total_of F.rules)
      × (AllByRecursion (Constant m) (take (final_total_of F.states) F.outputs)
      × (AtEach (SuitsAt F.rules (all_rule_outputs F)) F.rules
      × AtEach (ApartAt [] F.rules) F.rules)))))

  module _ (laws : Lawful m) where
    accepts_final : (k : ℕ) (t : T) → Accepts (check_final_lem m k t) (Constant m t)
    accepts_final k t =
        accepts_next _ _ (accepts_map_err (UnsoundOutput k) (m.check_term t)) (λ _. accepts_unless _ (NotConstant k) (decides_constant m laws t))

    accepts_output : (g : G) → SoundGuard m g → (k : ℕ) (t : T) → Accepts (check_output_lem m g k t) (Suits m g t)
    accepts_output g sound k t =
        accepts_next _ _ (accepts_map_err (UnsoundOutput k) (m.check_term t)) (λ _. accepts_unless _ (UnsoundOutput k NotSuiting) (decides_suits m laws g sound t))

    accepts_outputs : (k : ℕ) (rules : List (Rule G)) (ts : List T) → SoundGuards m rules → Accepts (check_rule_outputs_lem m k rules ts) (AtEach (SuitsAt rules ts) rules)
    accepts_outputs k [] ts sound = (λ _. at_each_none (SuitsAt [] ts), λ _. refl)
    accepts_outputs k (r ∷ rs) ts sound =
        let here = accepts_each (Suits m r.guard) (check_output_lem m r.guard) (accepts_output r.guard sound.0) k (take r.outputs ts) in
        let later = accepts_outputs (k + r.outputs) rs (drop r.outputs ts) sound.1 in
        accepts_places (SuitsAt (r ∷ rs) ts) r rs _ _ here later

    accepts_overlaps : (i : ℕ) (before rules : List (Rule G)) → SoundGuards m rules → Accepts (check_overlaps_lem m i before rules) (AtEach (ApartAt before rules) rules)
    accepts_overlaps i before [] sound = (λ _. at_each_none (ApartAt before []), λ _. refl)
    accepts_overlaps i before (r ∷ rs) sound =
        let here = accepts_unless _ (Overlap i) (decides_clashes m laws r sound.0 before) in
        let later = accepts_overlaps (i + 1) (before ++ r ∷ []) rs sound.1 in
        accepts_places (ApartAt before (r ∷ rs)) r rs _ _ (rw append-nil here) (simp append_assoc at later)

    accepts_checked : (F : Table G T) → Accepts (checked m F) (Parts F)
    accepts_checked F =
        let n = length F.states in
        let finals = final_total_of F.states in
        let guards = good_guards m n F.rules in
        accepts_next _ _ (accepts_limits n (length F.rules) (length F.outputs))
        (λ _. accepts_next _ _ (accepts_each GoodState check_state_lem accepts_state 0 F.states)
        (λ _. accepts_next _ _ (accepts_rules m n 0 F.rules)
        (λ good. accepts_next _ _ (accepts_unless _ OutputCount (Decides-eqb (length F.outputs) (finals + rule_total_of F.rules)))
        (λ _. accepts_next _ _ (accepts_each (Constant m) (check_final_lem m) accepts_final 0 (take finals F.outputs))
        (λ _. accepts_next _ _ (accepts_outputs finals F.rules (all_rule_outputs F) (guards good))
        (λ _. accepts_overlaps 0 [] F.rules (guards good)))))))

  sound_from_parts : (F : Table G T) → Parts F → Sound m F
  sound_from_parts F (few, (states, (rules, (counts, (finals, (outputs, apart)))))) =
      let state = at_each_from_all GoodState F.states states in
      let rule = at_each_from_all (GoodRule m (length F.states)) F.rules rules in
      record {
        some_state = few.0;
        few_states = few.1;
        few_rules = few.2;
        few_outputs = few.3;
        mark = λ q s e. (state q s e).0;
        short_final = λ q s e. (state q s e).1;
        no_final = λ q s e. (state q s e).2;
        from = λ i r e. (rule i r e).0;
        to = λ i r e. (rule i r e).1;
        guard = λ i r e. (rule i r e).2;
        short_output = λ i r e. (rule i r e).3;
        counts = counts;
        final = all_stretch (λ (s : State). s.finals) (Constant m) F.states F.outputs finals;
        output = outputs;
        apart = λ i j r e before first second. at_front (Apart m r) j F.rules (apart j r second) i e before first;
      }

  parts_from_sound : (F : Table G T) → Sound m F → Parts F
  parts_from_sound F S =
      let states = all_from_at_each GoodState F.states (λ q s e. (S.mark q s e, S.short_final q s e, S.no_final q s e)) in
      let rules = all_from_at_each (GoodRule m (length F.states)) F.rules (λ i r e. (S.from i r e, S.to i r e, S.guard i r e, S.short_output i r e)) in
      let finals = all_from_stretches (λ (s : State). s.finals) (Constant m) F.states F.outputs S.final in
      let apart : AtEach (ApartAt [] F.rules) F.rules = λ j r second. all_front (Apart m r) j F.rules (λ i e before first. S.apart i j r e before first second) in
      ((S.some_state, S.few_states, S.few_rules, S.few_outputs), (states, (rules, (S.counts, (finals, (S.output, apart))))))

  pub sound_from_checked : Lawful m → (F : Table G T) → checked m F ≡ Ok tt → Sound m F
  sound_from_checked laws F e = sound_from_parts F ((accepts_checked laws F).0 e)

  pub checked_from_sound : Lawful m → (F : Table G T) → Sound m F → checked m F ≡ Ok tt
  checked_from_sound laws F S = (accepts_checked laws F).1 (parts_from_sound F S)

  -- what the call of the check tells, from the first fault
  pub told : Lawful m → (F : Table G T) (r : Checked) → r ≡ checked m F → record { first : r ≡ checked m F; sound : Accepts r (Sound m F) }
  told laws F r e = record { first = e; sound = (λ ok. sound_from_checked laws F (sym e ∙ ok), λ S. e ∙ checked_from_sound laws F S) }
