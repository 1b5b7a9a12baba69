-- One turn of the loop that goes through the lines of the present state.
use Rattle.std.proofs.Common.{◌≡◌, ℕ, zero, suc, ◌+◌, ◌-◌, ◌<◌, ◌≤◌, cond, eqb, List, [], ◌∷◌, ◌++◌, map, length, get_or, take, drop, Some, None, Option, sym, refl, ap, ◌∙◌, subst, append_assoc, append-nil, arith}
use Rattle.std.specs.List.{slice_get, AllByRecursion}
use Rattle.std.proofs.ByRecursion.{All-take, All-drop, All-weaker}
use Rattle.std.proofs.lemmas.List.{at_drop_more, at_drop_all, drop-drop, map-append, take_all, length-drop}
use Rattle.alphabet.specs.Model.{Model, SoundTerm}
use Rattle.table.specs.declared.entries.Rule.{Rule}
use Rattle.table.specs.Table.{Table, stretch, final_total_of, rule_total_of, all_rule_outputs, rule_outputs}
use Rattle.table.specs.Sound.{Sound, Suits}
use Rattle.table.proofs.Stretches.{all_from_stretches}
use Rattle.table.proofs.Outputs.{total_more}
use Rattle.join_laws.specs.Lists.{gathered, on_some}
use Rattle.join_laws.specs.Lines.{Line, line_of, lines_from, lines_of}
use Rattle.join_laws.specs.Ways.{Way, followed_by, fronted, ways}
use Rattle.join_laws.proofs.Lines.{width}
use Rattle.join_ways.specs.declared.write.Span.{Span}
use Rattle.join_ways.specs.Paths.{SoundSpan, raw_line}
use Rattle.join_ways.specs.Added.{Counts, Fits, Added}
use Rattle.join_ways.proofs.Adds.{added_none, added_more, fits_front, fits_rest}

-- no stretch past the items
stretch_past : {X T : Type 0} (count : X → ℕ) (xs : List X) (i : ℕ) (ts : List T) → slice_get xs i ≡ None → stretch count xs i ts ≡ []
stretch_past count [] i ts e = refl
stretch_past count (x ∷ xs) zero ts e = absurd (grind arith)
stretch_past count (x ∷ xs) (suc i) ts e = stretch_past count xs i (drop (count x) ts) e

module _ {G T : Type 0} (m : Model G T) where
  -- the outputs of all rules of a sound table are sound
  pub rule_outputs_sound : (F : Table G T) → Sound m F → AllByRecursion (SoundTerm m) (all_rule_outputs F)
  rule_outputs_sound F S =
      let long : length (all_rule_outputs F) ≡ rule_total_of F.rules = length-drop (final_total_of F.states) F.outputs ∙ omega (arith, S.counts) in
      subst (AllByRecursion (SoundTerm m)) (take_all (rule_total_of F.rules) (all_rule_outputs F) (omega arith))
      (all_from_stretches width (SoundTerm m) F.rules (all_rule_outputs F) (λ i. each i (slice_get F.rules i) refl))
    where
      each : (i : ℕ) (o : Option (Rule G)) → slice_get F.rules i ≡ o → AllByRecursion (SoundTerm m) (rule_outputs F i)
      each i None e = subst (AllByRecursion (SoundTerm m)) (sym (stretch_past width F.rules i (all_rule_outputs F) e)) tt
      each i (Some r) e = All-weaker (Suits m r.guard) (SoundTerm m) (λ t k. k.0) (rule_outputs F i) (S.output i r e)

  -- the ways by one line
  abbrev pub by_line : List (Line G T) → List T → T → ℕ → G → Line G T → List (Way G T ℕ)
  by_line K ts t q g l = cond (eqb l.state q) (on_some (m.narrowed g t l.guard) (λ h. map (fronted m t l.outputs) (ways m K ts l.next h))) []

  pub raw_fronted : (k : ℕ) (acc : List T) (t : T) (us : List T) (W : List (Way G T ℕ)) → map (raw_line k acc) (map (fronted m t us) W) ≡ map (raw_line k (acc ++ followed_by m t us)) W
  raw_fronted k acc t us [] = refl
  raw_fronted k acc t us (w ∷ W) =
      ap (λ o. record { state = k; next = w.to; guard = w.guard; outputs = o } ∷ map (raw_line k acc) (map (fronted m t us) W)) (sym (append_assoc acc (followed_by m t us) w.outputs))
      ∙ ap (λ x. raw_line k (acc ++ followed_by m t us) w ∷ x) (raw_fronted k acc t us W)

  module _ (F : Table G T) (k : ℕ) (acc : List T) (ts : List T) (t : T) (q : ℕ) (g : G) (c : Counts) (R : List (Rule G)) (O : List T) (depth : ℕ) (path : List Span) where
    -- the lines that are left to be made from the rule j on, whose outputs begin at `start`
    abbrev pub remaining : ℕ → ℕ → List (Line G T)
    remaining j start = map (raw_line k acc) (gathered (by_line (lines_of F) ts t q g) (lines_from (drop j F.rules) (drop start F.outputs)))

    pub record Going (j start : ℕ) (d : Counts) (R' : List (Rule G)) (O' : List T) (path' : List Span) : Type 0 where
      pub done : List (Line G T)
      pub added : Added c d done R R' O O'
      pub left : done ++ remaining j start ≡ map (raw_line k acc) (ways m (lines_of F) (t ∷ ts) q g)
      pub counted : start + rule_total_of (drop j F.rules) ≡ length F.outputs
      pub sound : AllByRecursion (SoundTerm m) (drop start F.outputs)
      pub kept : take depth path' ≡ take depth path

    pub going_start : Sound m F → (first : ℕ) → first ≡ final_total_of F.states → c.rules ≤ length R → c.outputs ≤ length O → Going 0 first c R O path
    unfolding ways lines_of
    going_start S first e h l = record {
      done = [];
      added = added_none c R O h l;
      left = ap (λ n. map (raw_line k acc) (gathered (by_line (lines_of F) ts t q g) (lines_from F.rules (drop n F.outputs)))) e;
      counted = omega (arith, S.counts);
      sound = subst (λ n. AllByRecursion (SoundTerm m) (drop n F.outputs)) (sym e) (rule_outputs_sound F S);
      kept = refl;
    }

    module _ (j start : ℕ) (d : Counts) (R' : List (Rule G)) (O' : List T) (path' : List Span) (G₀ : Going j start d R' O' path') where
      pub going_end : length F.rules ≤ j → Added c d (map (raw_line k acc) (ways m (lines_of F) (t ∷ ts) q g)) R R' O O'
      going_end h =
          let e = ap (λ l. G₀.done ++ map (raw_line k acc) (gathered (by_line (lines_of F) ts t q g) l)) (at_drop_all (λ rs. lines_from rs (drop start F.outputs)) F.rules j h) in
          subst (λ ls. Added c d ls R R' O O') (sym (append-nil G₀.done) ∙ sym e ∙ G₀.left) G₀.added

      module _ (r : Rule G) (h : j < length F.rules) (read : r ≡ get_or F.rules j r) where
        -- the line of the rule
        abbrev pub line : Line G T
        line = line_of r (take r.outputs (drop start F.outputs))

        total : rule_total_of (drop j F.rules) ≡ r.outputs + rule_total_of (drop (j + 1) F.rules)
        total = total_more m F.rules F.outputs start j r h read

        pub ends_within : start + r.outputs ≤ length F.outputs
        ends_within = omega (arith, total, G₀.counted)

        next : lines_from (drop j F.rules) (drop start F.outputs) ≡ line ∷ lines_from (drop (j + 1) F.rules) (drop (start + r.outputs) F.outputs)
        next =
            at_drop_more (λ rs. lines_from rs (drop start F.outputs)) F.rules j r h
            ∙ ap (λ (x : Rule G). line_of x (take x.outputs (drop start F.outputs)) ∷ lines_from (drop (j + 1) F.rules) (drop x.outputs (drop start F.outputs))) (sym read)
            ∙ ap (λ l. line ∷ lines_from (drop (j + 1) F.rules) l) (drop-drop r.outputs start F.outputs)

        -- what is made of this line, and what of the others
        split : (W : List (Way G T ℕ)) → by_line (lines_of F) ts t q g line ≡ W
            → G₀.done ++ (map (raw_line k acc) W ++ remaining (j + 1) (start + r.outputs)) ≡ map (raw_line k acc) (ways m (lines_of F) (t ∷ ts) q g)
        split W e =
            ap (λ x. G₀.done ++ x) (sym (map-append (raw_line k acc) W (gathered (by_line (lines_of F) ts t q g) (lines_from (drop (j + 1) F.rules) (drop (start + r.outputs) F.outputs)))))
            ∙ ap (λ x. G₀.done ++ map (raw_line k acc) (x ++ gathered (by_line (lines_of F) ts t q g) (lines_from (drop (j + 1) F.rules) (drop (start + r.outputs) F.outputs)))) (sym e)
            ∙ ap (λ x. G₀.done ++ map (raw_line k acc) (gathered (by_line (lines_of F) ts t q g) x)) (sym next)
            ∙ G₀.left

        pub span_sound : SoundSpan m F.outputs (record { from = start; to = start + r.outputs })
        span_sound =
            let e : (start + r.outputs) - start ≡ r.outputs = omega arith in
            (omega arith, ends_within, subst (λ n. AllByRecursion (SoundTerm m) (take n (drop start F.outputs))) (sym e) (All-take (SoundTerm m) r.outputs (drop start F.outputs) G₀.sound))

        later_sound : AllByRecursion (SoundTerm m) (drop (start + r.outputs) F.outputs)
        later_sound = subst (AllByRecursion (SoundTerm m)) (drop-drop r.outputs start F.outputs) (All-drop (SoundTerm m) r.outputs (drop start F.outputs) G₀.sound)

        pub going_skip : by_line (lines_of F) ts t q g line ≡ [] → Going (j + 1) (start + r.outputs) d R' O' path'
        going_skip e = record {
          done = G₀.done;
          added = G₀.added;
          left = split [] e;
          counted = omega (arith, total, G₀.counted);
          sound = later_sound;
          kept = G₀.kept;
        }

        module _ (W : List (Way G T ℕ)) (is : by_line (lines_of F) ts t q g line ≡ map (fronted m t line.outputs) W) where
          -- the lines of this rule, as the call deeper down makes them
          abbrev pub deeper : List (Line G T)
          deeper = map (raw_line k (acc ++ followed_by m t line.outputs)) W

          whole : (G₀.done ++ deeper) ++ remaining (j + 1) (start + r.outputs) ≡ map (raw_line k acc) (ways m (lines_of F) (t ∷ ts) q g)
          whole =
              append_assoc G₀.done deeper (remaining (j + 1) (start + r.outputs))
              ∙ ap (λ x. G₀.done ++ (x ++ remaining (j + 1) (start + r.outputs))) (sym (raw_fronted k acc t line.outputs W))
              ∙ split (map (fronted m t line.outputs) W) is

          pub going_on : (e : Counts) (R'' : List (Rule G)) (O'' : List T) (path'' : List Span) → Added d e deeper R' R'' O' O'' → take depth path'' ≡ take depth path → Going (j + 1) (start + r.outputs) e R'' O'' path''
          going_on e R'' O'' path'' a same = record {
            done = G₀.done ++ deeper;
            added = added_more c d G₀.done R R' O O' G₀.added deeper e R'' O'' a;
            left = whole;
            counted = omega (arith, total, G₀.counted);
            sound = later_sound;
            kept = same;
          }

          pub going_refused : (Fits d deeper R' O' → ⊥) → Fits c (map (raw_line k acc) (ways m (lines_of F) (t ∷ ts) q g)) R O → ⊥
          going_refused over f =
              over (fits_rest c d G₀.done R R' O O' G₀.added deeper
              (fits_front c (G₀.done ++ deeper) (remaining (j + 1) (start + r.outputs)) R O (subst (λ ls. Fits c ls R O) (sym whole) f)))
