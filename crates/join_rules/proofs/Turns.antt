-- The rules of a pair, line by line of the first filter.
use Rattle.std.proofs.Common.{◌≡◌, ℕ, ◌+◌, ◌<◌, ◌≤◌, true, false, cond, eqb, List, [], ◌∷◌, ◌++◌, map, length, get_or, take, drop, sym, refl, ap, ◌∙◌, subst, append_assoc, append-nil, arith}
use Rattle.std.specs.List.{AllByRecursion}
use Rattle.std.proofs.ByRecursion.{All-take, All-drop}
use Rattle.std.proofs.lemmas.List.{at_drop_more, at_drop_all, drop-drop}
use Rattle.alphabet.specs.Model.{Model, SoundTerm}
use Rattle.table.specs.declared.entries.Rule.{Rule}
use Rattle.table.specs.Table.{Table, final_total_of, rule_total_of}
use Rattle.table.specs.Sound.{Sound}
use Rattle.table.proofs.Outputs.{total_more}
use Rattle.join_laws.specs.Lists.{gathered}
use Rattle.join_laws.specs.Lines.{Line, line_of, lines_from, lines_of}
use Rattle.join_laws.specs.Ways.{Way, ways}
use Rattle.join_laws.specs.Pairs.{Pair, met_all}
use Rattle.join_laws.specs.Joined.{aimed, numbered, ways_at}
use Rattle.join_ways.specs.Added.{Counts, Fits}
use Rattle.join_ways.proofs.Adds.{added_none}
use Rattle.join_ways.proofs.Goings.{rule_outputs_sound}
use Rattle.join_rules.specs.PairRules.{targets}
use Rattle.join_rules.proofs.Walkings.{Took, took_more, took_refused}

module _ {G T : Type 0} (m : Model G T) (F H : Table G T) (x : Pair) (k room : ℕ) (P : List Pair) (c : Counts) (R : List (Rule G)) (O : List T) where
  -- the ways by one line of the first filter
  abbrev pub from_line : Line G T → List (Way G T Pair)
  from_line l = cond (eqb l.state x.0) (map (aimed l.next) (ways m (lines_of H) l.outputs x.1 l.guard)) []

  abbrev remaining : ℕ → ℕ → List (Way G T Pair)
  remaining j start = gathered from_line (lines_from (drop j F.rules) (drop start F.outputs))

  -- the lines before j are done; the outputs of line j begin at `start`
  pub record Walking (j start : ℕ) (d : Counts) (P' : List Pair) (R' : List (Rule G)) (O' : List T) : Type 0 where
    pub done : List (Way G T Pair)
    pub left : done ++ remaining j start ≡ ways_at m F H x
    pub took : Took k done P room c d R O P' R' O'
    pub counted : start + rule_total_of (drop j F.rules) ≡ length F.outputs
    pub sound : AllByRecursion (SoundTerm m) (drop start F.outputs)

  pub walking_start : Sound m F → (first : ℕ) → first ≡ final_total_of F.states → length P ≤ room → c.rules ≤ length R → c.outputs ≤ length O → Walking 0 first c P R O
  unfolding ways_at lines_of
  walking_start S first e low h l = record {
    done = [];
    left = ap (λ n. gathered from_line (lines_from F.rules (drop n F.outputs))) e;
    took = (refl, low, added_none c R O h l);
    counted = omega (arith, S.counts);
    sound = subst (λ n. AllByRecursion (SoundTerm m) (drop n F.outputs)) (sym e) (rule_outputs_sound m F S);
  }

  module _ (j start : ℕ) (d : Counts) (P' : List Pair) (R' : List (Rule G)) (O' : List T) (V : Walking j start d P' R' O') where
    pub walking_end : length F.rules ≤ j → Took k (ways_at m F H x) P room c d R O P' R' O'
    walking_end h =
        subst (λ ws. Took k ws P room c d R O P' R' O')
        (sym (append-nil V.done) ∙ sym (ap (λ l. V.done ++ gathered from_line l) (at_drop_all (λ rs. lines_from rs (drop start F.outputs)) F.rules j h)) ∙ V.left) V.took

    module _ (r : Rule G) (h : j < length F.rules) (read : r ≡ get_or F.rules j r) where
      abbrev pub line : Line G T
      line = line_of r (take r.outputs (drop start F.outputs))

      total : rule_total_of (drop j F.rules) ≡ r.outputs + rule_total_of (drop (j + 1) F.rules)
      total = total_more m F.rules F.outputs start j r h read

      pub ends_within : start + r.outputs ≤ length F.outputs
      ends_within = omega (arith, total, V.counted)

      pub terms_sound : AllByRecursion (SoundTerm m) (take r.outputs (drop start F.outputs))
      terms_sound = All-take (SoundTerm m) r.outputs (drop start F.outputs) V.sound

      later_sound : AllByRecursion (SoundTerm m) (drop (start + r.outputs) F.outputs)
      later_sound = subst (AllByRecursion (SoundTerm m)) (drop-drop r.outputs start F.outputs) (All-drop (SoundTerm m) r.outputs (drop start F.outputs) V.sound)

      split : (vs : List (Way G T Pair)) → from_line line ≡ vs → (V.done ++ vs) ++ remaining (j + 1) (start + r.outputs) ≡ ways_at m F H x
      split vs e =
          append_assoc V.done vs (remaining (j + 1) (start + r.outputs))
          ∙ ap (λ l. V.done ++ (l ++ remaining (j + 1) (start + r.outputs))) (sym e)
          ∙ ap (λ l. V.done ++ gathered from_line l) (sym (
          at_drop_more (λ rs. lines_from rs (drop start F.outputs)) F.rules j r h
          ∙ ap (λ (y : Rule G). line_of y (take y.outputs (drop start F.outputs)) ∷ lines_from (drop (j + 1) F.rules) (drop y.outputs (drop start F.outputs))) (sym read)
          ∙ ap (λ l. line ∷ lines_from (drop (j + 1) F.rules) l) (drop-drop r.outputs start F.outputs)))
          ∙ V.left

      pub walking_skip : eqb r.state x.0 ≡ false → Walking (j + 1) (start + r.outputs) d P' R' O'
      walking_skip e = record {
        done = V.done;
        left = ap (λ l. l ++ remaining (j + 1) (start + r.outputs)) (sym (append-nil V.done)) ∙ split [] (rw e);
        took = V.took;
        counted = omega (arith, total, V.counted);
        sound = later_sound;
      }

      -- the ways of this line, along terms that are its outputs
      module _ (ts : List T) (is : ts ≡ take r.outputs (drop start F.outputs)) (e : eqb r.state x.0 ≡ true) where
        abbrev pub these : List (Way G T Pair)
        these = map (aimed r.next) (ways m (lines_of H) ts x.1 r.guard)

        this : from_line line ≡ these
        this = rw e (ap (λ l. map (aimed r.next) (ways m (lines_of H) l x.1 r.guard)) (sym is))

        pub walking_on : (d' : Counts) (P'' : List Pair) (R'' : List (Rule G)) (O'' : List T) → Took k these P' room d d' R' O' P'' R'' O'' → Walking (j + 1) (start + r.outputs) d' P'' R'' O''
        walking_on d' P'' R'' O'' t = record {
          done = V.done ++ these;
          left = split these this;
          took = took_more k room V.done these P P' c d R R' O O' V.took d' P'' R'' O'' t;
          counted = omega (arith, total, V.counted);
          sound = later_sound;
        }

        pub walking_refused : (let Q = met_all P' (targets these) in length Q ≤ room → Fits d (map (numbered Q k) these) R' O' → ⊥)
            → let Q = met_all P (targets (ways_at m F H x)) in length Q ≤ room → Fits c (map (numbered Q k) (ways_at m F H x)) R O → ⊥
        walking_refused over =
            subst (λ ws. let Q = met_all P (targets ws) in length Q ≤ room → Fits c (map (numbered Q k) ws) R O → ⊥) (split these this)
            (took_refused k room V.done these P P' c d R R' O O' V.took (remaining (j + 1) (start + r.outputs)) over)
