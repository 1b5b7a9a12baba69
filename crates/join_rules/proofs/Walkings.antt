-- One turn of the loop over the first filter's rules.
use Rattle.std.proofs.Common.{◌≡◌, ℕ, ◌+◌, ◌-◌, ◌≤◌, List, [], ◌∷◌, ◌++◌, map, length, take, drop, sym, refl, ap, ◌∙◌, subst, arith}
use borrow.Rule.Slice.PartMut.{put_mid, post_of}
use Rattle.std.specs.List.{AllByRecursion}
use Rattle.std.proofs.lemmas.List.{drop-drop, map-append, length-map, length-take-le, take_at, drop_at}
use Rattle.table.specs.declared.entries.Rule.{Rule}
use Rattle.join_laws.specs.Lines.{Line, rule_of_lem}
use Rattle.join_laws.specs.Ways.{Way}
use Rattle.join_laws.specs.Pairs.{Pair, met_all}
use Rattle.join_laws.specs.Joined.{aimed, numbered}
use Rattle.join_laws.proofs.Places.{In, Begins, begins_place, begins_length, met_all_begins, met_all_in, met_all_append}
use Rattle.join_ways.specs.Written.{spliced}
use Rattle.join_ways.specs.Paths.{raw_line}
use Rattle.join_ways.specs.Added.{Counts, outputs_of_lem, Fits, Added}
use Rattle.join_ways.proofs.Splices.{drop_spliced}
use Rattle.join_ways.proofs.Adds.{added_more, fits_front, fits_rest}
use Rattle.join_pairs.specs.Meets.{targets_of, renumbered}
use Rattle.join_rules.specs.PairRules.{targets}

spliced_is : {X : Type 0} (n : ℕ) (xs l : List X) → take n l ++ (xs ++ drop (n + length xs) l) ≡ spliced n xs l
unfolding spliced
spliced_is n xs l = refl

take_front : {X : Type 0} (n : ℕ) (xs l : List X) → length (take n l) ≡ n → take n (spliced n xs l) ≡ take n l
unfolding spliced
take_front n xs l e = take_at (take n l) (xs ++ drop (n + length xs) l) n e

post_is : {X : Type 0} (a k : ℕ) (xs : List X) → post_of a k xs ≡ drop (a + k) xs
post_is a k xs = drop-drop k a xs

-- a part that was written as a slice of its own is written over the list
pub mid_spliced : {X : Type 0} (a k : ℕ) (l xs : List X) → k ≡ length xs → put_mid a k l xs ≡ spliced a xs l
unfolding spliced
mid_spliced a k l xs e = ap (λ t. take a l ++ (xs ++ t)) (post_is a k l ∙ ap (λ i. drop (a + i) l) e)

module _ {G T : Type 0} where
  -- numbers last when more pairs are met
  pub numbered_same : (P Q : List Pair) (k : ℕ) → Begins P Q → (ws : List (Way G T Pair)) → AllByRecursion (In P) (targets ws) → map (numbered P k) ws ≡ map (numbered Q k) ws
  numbered_same P Q k b [] all = refl
  numbered_same P Q k b (w ∷ ws) all =
      ap (λ n. record { state = k; next = n; guard = w.guard; outputs = w.outputs } ∷ map (numbered P k) ws) (sym (begins_place P Q b w.to all.0))
      ∙ ap (λ l. numbered Q k w ∷ l) (numbered_same P Q k b ws all.1)

  -- what fits does not depend on the numbers
  pub fits_numbers : (c : Counts) (P Q : List Pair) (k : ℕ) (ws : List (Way G T Pair)) (R : List (Rule G)) (O : List T) → Fits c (map (numbered P k) ws) R O → Fits c (map (numbered Q k) ws) R O
  fits_numbers c P Q k ws R O f = record {
    rules_fit = omega (arith, f.rules_fit, length-map ws (numbered P k), length-map ws (numbered Q k));
    outputs_fit = omega (arith, f.outputs_fit, ap length (same ws));
    short = shorts ws f.short;
  }
    where
      same : (vs : List (Way G T Pair)) → outputs_of_lem (map (numbered P k) vs) ≡ outputs_of_lem (map (numbered Q k) vs)
      same [] = refl
      same (w ∷ vs) = ap (λ l. w.outputs ++ l) (same vs)

      shorts : (vs : List (Way G T Pair)) → AllByRecursion (λ (l : Line G T). length l.outputs ≤ 32) (map (numbered P k) vs) → AllByRecursion (λ (l : Line G T). length l.outputs ≤ 32) (map (numbered Q k) vs)
      shorts [] all = tt
      shorts (w ∷ vs) all = (all.0, shorts vs all.1)

  -- the raw lines of ways, beside those with the numbers of their targets
  module _ (P : List Pair) (k p : ℕ) where
    rules_aimed : (W : List (Way G T ℕ)) → map (renumbered P p) (map rule_of_lem (map (raw_line k []) W)) ≡ map rule_of_lem (map (numbered P k) (map (aimed p) W))
    rules_aimed [] = refl
    rules_aimed (w ∷ W) = ap (λ l. rule_of_lem (numbered P k (aimed p w)) ∷ l) (rules_aimed W)

    outputs_aimed : (W : List (Way G T ℕ)) → outputs_of_lem (map (raw_line k []) W) ≡ outputs_of_lem (map (numbered P k) (map (aimed p) W))
    outputs_aimed [] = refl
    outputs_aimed (w ∷ W) = ap (λ l. w.outputs ++ l) (outputs_aimed W)

    long_aimed : (W : List (Way G T ℕ)) → length (map (numbered P k) (map (aimed p) W)) ≡ length (map (raw_line k []) W)
    long_aimed W = length-map (map (aimed p) W) (numbered P k) ∙ length-map W (aimed p) ∙ sym (length-map W (raw_line {G = G} {T = T} k []))

    pub fits_raw : (c : Counts) (W : List (Way G T ℕ)) (R : List (Rule G)) (O : List T) → Fits c (map (numbered P k) (map (aimed p) W)) R O → Fits c (map (raw_line k []) W) R O
    fits_raw c W R O f = record {
      rules_fit = omega (arith, f.rules_fit, long_aimed W);
      outputs_fit = omega (arith, f.outputs_fit, ap length (outputs_aimed W));
      short = shorts W f.short;
    }
      where
        shorts : (V : List (Way G T ℕ)) → AllByRecursion (λ (l : Line G T). length l.outputs ≤ 32) (map (numbered P k) (map (aimed p) V)) → AllByRecursion (λ (l : Line G T). length l.outputs ≤ 32) (map (raw_line k []) V)
        shorts [] all = tt
        shorts (w ∷ V) all = (all.0, shorts V all.1)

    pub targets_raw : (W : List (Way G T ℕ)) → targets_of p (map rule_of_lem (map (raw_line k []) W)) ≡ targets (map (aimed p) W)
    targets_raw [] = refl
    targets_raw (w ∷ W) = ap (λ l. (p, w.to) ∷ l) (targets_raw W)

    module _ (d e : Counts) (W : List (Way G T ℕ)) (R R₁ : List (Rule G)) (O O₁ : List T) (a : Added d e (map (raw_line k []) W) R R₁ O O₁) where
      X : List (Rule G)
      X = map rule_of_lem (map (raw_line k []) W)

      size : e.rules - d.rules ≡ length (map rule_of_lem (map (raw_line {G = G} {T = T} k []) W))
      size = omega (arith, a.rule_count, length-map (map (raw_line {G = G} {T = T} k []) W) rule_of_lem)

      front : length (take d.rules R) ≡ d.rules
      front = length-take-le d.rules R (omega (arith, a.fits.rules_fit))

      -- the rules that were just written
      pub fresh : take (e.rules - d.rules) (drop d.rules R₁) ≡ map rule_of_lem (map (raw_line k []) W)
      unfolding spliced X
      fresh =
          ap (λ n. take n (drop d.rules R₁)) size
          ∙ ap (λ l. take (length X) (drop d.rules l)) a.rules_are
          ∙ ap (take (length X)) (drop_at (take d.rules R) (X ++ drop (d.rules + length X) R) d.rules front)
          ∙ take_at X (drop (d.rules + length X) R) (length X) refl

      -- with their targets' numbers they are the lines of the ways
      pub added_numbered : (R₂ Y : List (Rule G)) → R₂ ≡ spliced d.rules Y R₁ → Y ≡ map (renumbered P p) (map rule_of_lem (map (raw_line k []) W))
          → Added d e (map (numbered P k) (map (aimed p) W)) R R₂ O O₁
      added_numbered R₂ Y is ys = record {
        fits = record {
          rules_fit = omega (arith, a.fits.rules_fit, long_aimed W);
          outputs_fit = omega (arith, a.fits.outputs_fit, ap length (outputs_aimed W));
          short = shorts W a.fits.short;
        };
        rule_count = a.rule_count ∙ ap (λ n. d.rules + n) (sym (long_aimed W));
        output_count = a.output_count ∙ ap (λ l. d.outputs + length l) (outputs_aimed W);
        rules_are = is ∙ sym (mid_spliced d.rules (e.rules - d.rules) R₁ Y (size ∙ sym (length-map (map rule_of_lem (map (raw_line k []) W)) (renumbered P p)) ∙ ap length (sym ys))) ∙ middle;
        outputs_are = a.outputs_are ∙ ap (λ l. spliced d.outputs l O) (outputs_aimed W);
      }
        where
          shorts : (V : List (Way G T ℕ)) → AllByRecursion (λ (l : Line G T). length l.outputs ≤ 32) (map (raw_line k []) V) → AllByRecursion (λ (l : Line G T). length l.outputs ≤ 32) (map (numbered P k) (map (aimed p) V))
          shorts [] all = tt
          shorts (w ∷ V) all = (all.0, shorts V all.1)

          Z : List (Rule G)
          Z = map rule_of_lem (map (numbered P k) (map (aimed p) W))

          long : length (map rule_of_lem (map (numbered P k) (map (aimed p) W))) ≡ length (map rule_of_lem (map (raw_line {G = G} {T = T} k []) W))
          long = length-map (map (numbered P k) (map (aimed p) W)) rule_of_lem ∙ long_aimed W ∙ sym (length-map (map (raw_line {G = G} {T = T} k []) W) rule_of_lem)

          fit : d.rules + length (map rule_of_lem (map (raw_line {G = G} {T = T} k []) W)) ≤ length R
          fit = omega (arith, a.fits.rules_fit, length-map (map (raw_line {G = G} {T = T} k []) W) rule_of_lem)

          start : take d.rules R₁ ≡ take d.rules R
          start = ap (take d.rules) a.rules_are ∙ take_front d.rules (map rule_of_lem (map (raw_line k []) W)) R front

          post : post_of d.rules (e.rules - d.rules) R₁ ≡ drop (d.rules + length (map rule_of_lem (map (raw_line {G = G} {T = T} k []) W))) R
          post =
              ap (λ n. post_of d.rules n R₁) size ∙ post_is d.rules (length (map rule_of_lem (map (raw_line {G = G} {T = T} k []) W))) R₁
              ∙ ap (drop (d.rules + length (map rule_of_lem (map (raw_line {G = G} {T = T} k []) W)))) a.rules_are ∙ drop_spliced d.rules (map rule_of_lem (map (raw_line k []) W)) R fit

          middle : put_mid d.rules (e.rules - d.rules) R₁ Y ≡ spliced d.rules (map rule_of_lem (map (numbered P k) (map (aimed p) W))) R
          middle =
              ap (λ l. l ++ (Y ++ post_of d.rules (e.rules - d.rules) R₁)) start
              ∙ ap (λ l. take d.rules R ++ (l ++ post_of d.rules (e.rules - d.rules) R₁)) (ys ∙ rules_aimed W)
              ∙ ap (λ l. take d.rules R ++ (map rule_of_lem (map (numbered P k) (map (aimed p) W)) ++ l)) (post ∙ ap (λ n. drop (d.rules + n) R) (sym long))
              ∙ spliced_is d.rules (map rule_of_lem (map (numbered P k) (map (aimed p) W))) R

  -- what is taken in two parts
  abbrev pub Took : ℕ → List (Way G T Pair) → List Pair → ℕ → Counts → Counts → List (Rule G) → List T → List Pair → List (Rule G) → List T → Type 0
  Took k ws P room c d R O P' R' O' = (P' ≡ met_all P (targets ws)) × (length P' ≤ room) × Added c d (map (numbered P' k) ws) R R' O O'

  module _ (k room : ℕ) (ws vs : List (Way G T Pair)) (P P₁ : List Pair) (c d : Counts) (R R₁ : List (Rule G)) (O O₁ : List T) (a : Took k ws P room c d R O P₁ R₁ O₁) where
    all_met : met_all P₁ (targets vs) ≡ met_all P (targets (ws ++ vs))
    all_met = ap (λ l. met_all l (targets vs)) a.0 ∙ sym (met_all_append P (targets ws) (targets vs)) ∙ ap (met_all P) (sym (map-append (λ (w : Way G T Pair). w.to) ws vs))

    -- the first part's lines keep their numbers
    kept_lines : (Q : List Pair) → Begins P₁ Q → map (numbered P₁ k) ws ≡ map (numbered Q k) ws
    kept_lines Q b = numbered_same P₁ Q k b ws (subst (λ l. AllByRecursion (In l) (targets ws)) (sym a.0) (met_all_in P (targets ws)))

    pub took_more : (e : Counts) (P₂ : List Pair) (R₂ : List (Rule G)) (O₂ : List T) → Took k vs P₁ room d e R₁ O₁ P₂ R₂ O₂ → Took k (ws ++ vs) P room c e R O P₂ R₂ O₂
    took_more e P₂ R₂ O₂ b =
        let grows : Begins P₁ P₂ = subst (Begins P₁) (sym b.0) (met_all_begins P₁ (targets vs)) in (
          b.0 ∙ all_met,
          b.1,
          subst (λ ls. Added c e ls R R₂ O O₂) (ap (λ l. l ++ map (numbered P₂ k) vs) (kept_lines P₂ grows) ∙ sym (map-append (numbered P₂ k) ws vs))
              (added_more c d (map (numbered P₁ k) ws) R R₁ O O₁ a.2 (map (numbered P₂ k) vs) e R₂ O₂ b.2),
        )

    pub took_refused : (rest : List (Way G T Pair)) → (let Q = met_all P₁ (targets vs) in length Q ≤ room → Fits d (map (numbered Q k) vs) R₁ O₁ → ⊥)
        → let Q = met_all P (targets ((ws ++ vs) ++ rest)) in length Q ≤ room → Fits c (map (numbered Q k) ((ws ++ vs) ++ rest)) R O → ⊥
    took_refused rest over low fits =
        let Q = met_all P (targets ((ws ++ vs) ++ rest)) in
        let part : met_all (met_all P (targets (ws ++ vs))) (targets rest) ≡ Q = sym (met_all_append P (targets (ws ++ vs)) (targets rest)) ∙ ap (met_all P) (sym (map-append (λ (w : Way G T Pair). w.to) (ws ++ vs) rest)) in
        let shorter = begins_length (met_all P (targets (ws ++ vs))) (met_all (met_all P (targets (ws ++ vs))) (targets rest)) (met_all_begins (met_all P (targets (ws ++ vs))) (targets rest)) in
        let Q₂ = met_all P₁ (targets vs) in
        let f₁ = fits_front c (map (numbered Q k) (ws ++ vs)) (map (numbered Q k) rest) R O (subst (λ ls. Fits c ls R O) (map-append (numbered Q k) (ws ++ vs) rest) fits) in
        let f₂ = subst (λ ls. Fits c ls R O) (map-append (numbered P₁ k) ws vs) (fits_numbers c Q P₁ k (ws ++ vs) R O f₁) in
        let f₃ = fits_rest c d (map (numbered P₁ k) ws) R R₁ O O₁ a.2 (map (numbered P₁ k) vs) f₂ in
        over (omega (arith, low, shorter, ap length part, ap length all_met)) (fits_numbers d P₁ Q₂ k vs R₁ O₁ f₃)
