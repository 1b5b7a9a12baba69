-- Lines added to lists, one and several.
use Rattle.std.proofs.Common.{◌≡◌, ◌+◌, ◌<◌, ◌≤◌, List, [], ◌∷◌, ◌++◌, map, length, Ok, Err, Result, sym, refl, ap, ◌∙◌, append_assoc, append-nil, arith}
use Rattle.std.specs.List.{AllByRecursion}
use Rattle.std.proofs.ByRecursion.{All-append}
use Rattle.std.proofs.lemmas.List.{length-append, length-map, map-append}
use Rattle.table.specs.declared.entries.Rule.{Rule}
use Rattle.join_laws.specs.Lines.{Line, rule_of_lem}
use Rattle.join_ways.specs.declared.write.TooLarge.{TooLarge}
use Rattle.join_ways.specs.Written.{spliced, Wrote}
use Rattle.join_ways.specs.Added.{Lines, Counts, outputs_of_lem, Fits, Added, Adds, counts}
use Rattle.join_ways.proofs.Splices.{Mid, mid_more, mid_length, splice_none}

module _ {G T : Type 0} where
  pub outputs_append : (ls ks : List (Line G T)) → outputs_of_lem (ls ++ ks) ≡ outputs_of_lem ls ++ outputs_of_lem ks
  outputs_append [] ks = refl
  outputs_append (l ∷ ls) ks = ap (λ x. l.outputs ++ x) (outputs_append ls ks) ∙ sym (append_assoc l.outputs (outputs_of_lem ls) (outputs_of_lem ks))

  -- a single line has no room, or has it
  pub one_refused : (c : Counts) (l : Line G T) (R : List (Rule G)) (O : List T) → length O < c.outputs + length l.outputs → Fits c (l ∷ []) R O → ⊥
  one_refused c l R O over f = omega (arith, f.outputs_fit, ap length (append-nil l.outputs))

  pub one_over : (c : Counts) (l : Line G T) (R : List (Rule G)) (O : List T) → 32 < length l.outputs → Fits c (l ∷ []) R O → ⊥
  one_over c l R O over f = omega (arith, f.short.0)

  pub one_added : (c d : Counts) (l : Line G T) (R R' : List (Rule G)) (O O' : List T) → Mid c.rules d.rules (rule_of_lem l ∷ []) R R' → Mid c.outputs d.outputs l.outputs O O' → length l.outputs ≤ 32
      → Added c d (l ∷ []) R R' O O'
  one_added c d l R R' O O' j k short =
      let e = append-nil l.outputs in
      record {
        fits = record { rules_fit = omega (arith, j.ends, j.room); outputs_fit = omega (arith, ap length e, k.ends, k.room); short = (short, tt) };
        rule_count = j.ends;
        output_count = k.ends ∙ ap (λ x. c.outputs + length x) (sym e);
        rules_are = j.is;
        outputs_are = k.is ∙ ap (λ x. spliced c.outputs x O) (sym e);
      }

  -- its outputs are written, and its rule is pushed or has no room
  pub one_pushed : (l : Line G T) (L M : Lines G T) → Mid L.outputs.count M.outputs.count l.outputs L.outputs.items.now M.outputs.items.now → length l.outputs ≤ 32
      → (r : Result Unit TooLarge) → Wrote (rule_of_lem l ∷ []) L.rules M.rules r → Adds (l ∷ []) L M r
  one_pushed l L M k short (Ok u) (e, h, is) =
      one_added (counts L) (counts M) l L.rules.items.now M.rules.items.now L.outputs.items.now M.outputs.items.now (record { ends = e; room = h; is = is }) k short
  one_pushed l L M k short (Err e) over = λ f. omega (arith, over, f.rules_fit)

  pub added_none : (c : Counts) (R : List (Rule G)) (O : List T) → c.rules ≤ length R → c.outputs ≤ length O → Added c c [] R R O O
  added_none c R O h k = record {
    fits = record { rules_fit = omega arith; outputs_fit = omega arith; short = tt };
    rule_count = omega arith;
    output_count = omega arith;
    rules_are = sym (splice_none c.rules R);
    outputs_are = sym (splice_none c.outputs O);
  }

  module _ (c d : Counts) (ls : List (Line G T)) (R R' : List (Rule G)) (O O' : List T) (a : Added c d ls R R' O O') where
    -- the two lists as they are being written
    pub rules_mid : Mid c.rules d.rules (map rule_of_lem ls) R R'
    rules_mid = record {
      ends = a.rule_count ∙ ap (λ n. c.rules + n) (sym (length-map ls rule_of_lem));
      room = omega (arith, a.rule_count, a.fits.rules_fit);
      is = a.rules_are;
    }

    pub outputs_mid : Mid c.outputs d.outputs (outputs_of_lem ls) O O'
    outputs_mid = record { ends = a.output_count; room = omega (arith, a.output_count, a.fits.outputs_fit); is = a.outputs_are }

    pub rules_long : length R' ≡ length R
    rules_long = mid_length c.rules d.rules (map rule_of_lem ls) R R' rules_mid

    pub outputs_long : length O' ≡ length O
    outputs_long = mid_length c.outputs d.outputs (outputs_of_lem ls) O O' outputs_mid

    -- more lines behind them
    module _ (ks : List (Line G T)) where
      pub fits_more : Fits d ks R' O' → Fits c (ls ++ ks) R O
      fits_more f =
          let x = rules_long in
          let y = outputs_long in
          record {
            rules_fit = omega (arith, f.rules_fit, a.rule_count, length-append ls ks);
            outputs_fit = omega (arith, f.outputs_fit, a.output_count, ap length (outputs_append ls ks), length-append (outputs_of_lem ls) (outputs_of_lem ks));
            short = All-append (λ (l : Line G T). length l.outputs ≤ 32) ls ks a.fits.short f.short;
          }

      all_back : (P : Line G T → Type 0) (xs : List (Line G T)) → AllByRecursion P (xs ++ ks) → AllByRecursion P ks
      all_back P [] all = all
      all_back P (x ∷ xs) all = all_back P xs all.1

      pub fits_rest : Fits c (ls ++ ks) R O → Fits d ks R' O'
      fits_rest f =
          let x = rules_long in
          let y = outputs_long in
          record {
            rules_fit = omega (arith, f.rules_fit, a.rule_count, length-append ls ks);
            outputs_fit = omega (arith, f.outputs_fit, a.output_count, ap length (outputs_append ls ks), length-append (outputs_of_lem ls) (outputs_of_lem ks));
            short = all_back (λ (l : Line G T). length l.outputs ≤ 32) ls f.short;
          }

      pub added_more : (e : Counts) (R'' : List (Rule G)) (O'' : List T) → Added d e ks R' R'' O' O'' → Added c e (ls ++ ks) R R'' O O''
      added_more e R'' O'' b =
          let s = mid_more c.rules d.rules e.rules (map rule_of_lem ls) (map rule_of_lem ks) R R' R'' rules_mid (record {
            ends = b.rule_count ∙ ap (λ n. d.rules + n) (sym (length-map ks rule_of_lem));
            room = omega (arith, b.rule_count, b.fits.rules_fit);
            is = b.rules_are;
          }) in
          let t = mid_more c.outputs d.outputs e.outputs (outputs_of_lem ls) (outputs_of_lem ks) O O' O'' outputs_mid (record {
            ends = b.output_count;
            room = omega (arith, b.output_count, b.fits.outputs_fit);
            is = b.outputs_are;
          }) in
          record {
            fits = fits_more b.fits;
            rule_count = omega (arith, b.rule_count, a.rule_count, length-append ls ks);
            output_count = omega (arith, b.output_count, a.output_count, ap length (outputs_append ls ks), length-append (outputs_of_lem ls) (outputs_of_lem ks));
            rules_are = s.is ∙ ap (λ x. spliced c.rules x R) (sym (map-append rule_of_lem ls ks));
            outputs_are = t.is ∙ ap (λ x. spliced c.outputs x O) (sym (outputs_append ls ks));
          }

  -- a front fits where the whole does
  pub fits_front : (c : Counts) (ls ks : List (Line G T)) (R : List (Rule G)) (O : List T) → Fits c (ls ++ ks) R O → Fits c ls R O
  fits_front c ls ks R O f = record {
    rules_fit = omega (arith, f.rules_fit, length-append ls ks);
    outputs_fit = omega (arith, f.outputs_fit, ap length (outputs_append ls ks), length-append (outputs_of_lem ls) (outputs_of_lem ks));
    short = front ls f.short;
  }
    where
      front : (xs : List (Line G T)) → AllByRecursion (λ (l : Line G T). length l.outputs ≤ 32) (xs ++ ks) → AllByRecursion (λ (l : Line G T). length l.outputs ≤ 32) xs
      front [] all = tt
      front (x ∷ xs) all = (all.0, front xs all.1)
