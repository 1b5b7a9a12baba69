-- The parts of the joined filter, put together.
use Rattle.std.proofs.Common.{◌≡◌, ℕ, ◌+◌, ◌≤◌, min, List, [], ◌∷◌, ◌++◌, map, length, take, drop, Ok, Err, Option, Result, sym, refl, ap, ◌∙◌, subst, append_assoc, arith}
use borrow.Rule.Slice.PartMut.{put_mid, post_of}
use Rattle.std.specs.List.{AllByRecursion}
use Rattle.std.proofs.ByRecursion.{All-map}
use Rattle.std.proofs.lemmas.List.{length-append, length-map, take_at, drop_at, drop-append-le, length-take-le, take-append-drop}
use Rattle.alphabet.specs.Model.{Model}
use Rattle.table.specs.declared.entries.State.{State}
use Rattle.table.specs.declared.entries.Rule.{Rule}
use Rattle.table.specs.Table.{Table}
use Rattle.join_laws.specs.Lists.{gathered}
use Rattle.join_laws.specs.Lines.{Line, rule_of_lem, state_of, constants, table_from}
use Rattle.alphabet.specs.Laws.{Lawful}
use Rattle.table.specs.Sound.{Sound}
use Rattle.join_laws.specs.Joined.{pairs, joined}
use Rattle.join_laws.proofs.Places.{begins_length}
use Rattle.join_laws.proofs.Composed.{pairs_begin}
use Rattle.join_ways.specs.declared.write.TooLarge.{TooLarge}
use Rattle.join_ways.specs.Written.{spliced}
use Rattle.join_ways.specs.Added.{Lines, Counts, outputs_of_lem, Fits, Added, FitsIn, AddedTo, counts}
use Rattle.join_ways.proofs.Splices.{splice_more, splice_length}
use Rattle.join_states.specs.Ended.{Room}
use Rattle.join.specs.declared.Sizes.{Sizes}
use Rattle.join.specs.Filled.{Fitting, Written, Fills, Roomy, Begun, Answers}

all_unmap : {X Y : Type 0} (Q : Y → Type 0) (f : X → Y) (xs : List X) → AllByRecursion Q (map f xs) → AllByRecursion (λ x. Q (f x)) xs
all_unmap Q f [] all = tt
all_unmap Q f (x ∷ xs) all = (all.0, all_unmap Q f xs all.1)

abbrev zero : Counts
zero = record { rules = 0; outputs = 0 }

-- what was added to lists that were empty
module _ {G T : Type 0} (ls : List (Line G T)) (L : Lines G T) (R : List (Rule G)) (O : List T) (e : L.rules.count ≡ 0) (f : L.outputs.count ≡ 0) (r : L.rules.items.now ≡ R) (o : L.outputs.items.now ≡ O) where
  none : counts L ≡ zero
  none = ap (λ n. record { rules = n; outputs = L.outputs.count }) e ∙ ap (λ n. record { rules = 0; outputs = n }) f

  pub added_first : (L' : Lines G T) → AddedTo ls L L' → Added zero (counts L') ls R L'.rules.items.now O L'.outputs.items.now
  added_first L' a =
      subst (λ l. Added zero (counts L') ls R L'.rules.items.now l L'.outputs.items.now) o
      (subst (λ l. Added zero (counts L') ls l L'.rules.items.now L.outputs.items.now L'.outputs.items.now) r
      (subst (λ c. Added c (counts L') ls L.rules.items.now L'.rules.items.now L.outputs.items.now L'.outputs.items.now) none a))

  pub fits_first : Fits zero ls R O → FitsIn ls L
  fits_first h = subst (λ l. Fits (counts L) ls L.rules.items.now l) (sym o) (subst (λ l. Fits (counts L) ls l O) (sym r) (subst (λ c. Fits c ls R O) (sym none) h))

-- a list whose first part is turned round
turned : {X : Type 0} (xs ys l : List X) → length xs + length ys ≤ length l → (n : ℕ) → n ≡ length xs + length ys → (L Z : List X) → L ≡ spliced 0 (xs ++ ys) l → Z ≡ drop (length xs) (take n L) ++ take (length xs) (take n L)
    → put_mid 0 n L Z ≡ spliced 0 (ys ++ xs) l
unfolding spliced
turned xs ys l h n e L Z is z =
    let long : length (xs ++ ys) ≡ n = length-append xs ys ∙ sym e in
    let L' : L ≡ (xs ++ ys) ++ drop (0 + length (xs ++ ys)) l = is in
    let front : take n L ≡ xs ++ ys = ap (take n) L' ∙ take_at (xs ++ ys) (drop (0 + length (xs ++ ys)) l) n long in
    let Z' : Z ≡ ys ++ xs = z ∙ ap (λ a. drop (length xs) a ++ take (length xs) a) front ∙ ap (λ a. a ++ take (length xs) (xs ++ ys)) (drop_at xs ys (length xs) refl) ∙ ap (λ a. ys ++ a) (take_at xs ys (length xs) refl) in
    let post : post_of 0 n L ≡ drop (0 + length (xs ++ ys)) l = ap (drop n) L' ∙ drop_at (xs ++ ys) (drop (0 + length (xs ++ ys)) l) n long in
    let same : length (xs ++ ys) ≡ length (ys ++ xs) = omega (arith, length-append xs ys, length-append ys xs) in
    ap (λ a. a ++ post_of 0 n L) Z' ∙ ap (λ a. (ys ++ xs) ++ a) post ∙ ap (λ i. (ys ++ xs) ++ drop (0 + i) l) same

module _ {G T : Type 0} (m : Model G T) (fs : List (Option (List ℕ))) (ls : List (Line G T)) (room : ℕ) (R : List (Rule G)) (O : List T) where
  J : Table G T
  J = table_from m fs ls

  -- what does not fit of the parts does not fit of the whole
  pub fits_lines : Fitting (table_from m fs ls) room R O → Fits (record { rules = 0; outputs = 0 }) ls R O
  fits_lines f = record {
    rules_fit = omega (arith, f.rules_fit, length-map ls rule_of_lem);
    outputs_fit = omega (arith, f.outputs_fit, length-append (gathered (constants m) fs) (outputs_of_lem ls));
    short = all_unmap (λ (r : Rule G). r.outputs ≤ 32) rule_of_lem ls f.pieces;
  }

  module _ (d : Counts) (R₁ : List (Rule G)) (O₁ : List T) (a : Added zero d ls R R₁ O O₁) where
    long : length O₁ ≡ length O
    long = ap length a.outputs_are ∙ splice_length 0 (outputs_of_lem ls) O (omega (arith, a.fits.outputs_fit))

    pub fits_finals : Fitting (table_from m fs ls) room R O → Room m d.outputs fs O₁
    fits_finals f = record {
      short = all_unmap (λ (s : State). s.finals ≤ 32) state_of fs f.finals;
      fits = omega (arith, long, a.output_count, f.outputs_fit, length-append (gathered (constants m) fs) (outputs_of_lem ls));
    }

    pub all_written : (n total : ℕ) (S S₁ : List State) (O₂ Z : List T) → length fs ≤ room → n ≡ length fs → total ≡ d.outputs + length (gathered (constants m) fs) → S₁ ≡ spliced 0 (map state_of fs) S
        → O₂ ≡ spliced d.outputs (gathered (constants m) fs) O₁ → Room m d.outputs fs O₁ → Z ≡ drop d.outputs (take total O₂) ++ take d.outputs (take total O₂)
        → Written (table_from m fs ls) room (record { states = n; rules = d.rules; outputs = total }) S S₁ R R₁ O (put_mid 0 total O₂ Z)
    all_written n total S S₁ O₂ Z low e t s o r z =
        let X = outputs_of_lem ls in
        let Y = gathered (constants m) fs in
        let from : d.outputs ≡ length X = omega (arith, a.output_count) in
        let whole : O₂ ≡ spliced 0 (X ++ Y) O = o ∙ ap (λ i. spliced i Y O₁) a.output_count ∙ ap (spliced (0 + length X) Y) a.outputs_are ∙ splice_more 0 X Y O (omega (arith, a.fits.outputs_fit)) in
        record {
          fits = record {
            states = simp length-map low;
            rules_fit = simp length-map (omega (arith, a.fits.rules_fit));
            outputs_fit = omega (arith, r.fits, long, from, length-append Y X);
            finals = All-map (λ (x : State). x.finals ≤ 32) state_of fs r.short;
            pieces = All-map (λ (x : Rule G). x.outputs ≤ 32) rule_of_lem ls a.fits.short;
          };
          state_count = e ∙ sym (length-map fs state_of);
          rule_count = omega (arith, a.rule_count, length-map ls rule_of_lem);
          output_count = omega (arith, t, from, length-append Y X);
          states_are = s;
          rules_are = a.rules_are;
          outputs_are = turned X Y O (omega (arith, r.fits, long, from)) total (omega (arith, t, from)) O₂ Z whole (z ∙ ap (λ i. drop i (take total O₂) ++ take i (take total O₂)) from);
        }

-- the same under other names
pub written_same : {G T : Type 0} (J : Table G T) (room st r r' n n' i : ℕ) (S S₁ : List State) (R R₁ R₂ : List (Rule G)) (O X Y Z : List T) → r' ≡ r → n' ≡ n → i ≡ n → R₂ ≡ R₁ → Y ≡ X
    → Written J room (record { states = st; rules = r; outputs = n }) S S₁ R R₁ O (put_mid 0 n X Z) → Written J room (record { states = st; rules = r'; outputs = n' }) S S₁ R R₂ O (put_mid 0 i Y Z)
written_same J room st r r' n n' i S S₁ R R₁ R₂ O X Y Z e f h a b w = rw (e, f, h, a, b) w

-- a write to the front of the front of a list is one to the front of the list
cut_spliced : {X : Type 0} (xs l Y : List X) (k : ℕ) → length xs ≤ k → k ≤ length l → Y ≡ spliced 0 xs (take k l) → put_mid 0 k l Y ≡ xs ++ drop (length xs) l
unfolding spliced
cut_spliced xs l Y k h room is =
    let rest : drop (length xs) (take k l) ++ drop k l ≡ drop (length xs) l = sym (drop-append-le (length xs) (take k l) (drop k l) (omega (arith, length-take-le k l room))) ∙ ap (drop (length xs)) (take-append-drop k l) in
    let zero : 0 + length xs ≡ length xs = omega arith in
    ap (λ a. a ++ drop k l) (is ∙ ap (λ i. xs ++ drop i (take k l)) zero) ∙ append_assoc xs (drop (length xs) (take k l)) (drop k l) ∙ ap (λ a. xs ++ a) rest

front_spliced : {X : Type 0} (xs l Y : List X) → Y ≡ spliced 0 xs l → Y ≡ xs ++ drop (length xs) l
unfolding spliced
front_spliced xs l Y is = let zero : 0 + length xs ≡ length xs = omega arith in is ∙ ap (λ i. xs ++ drop i l) zero

module _ {G T : Type 0} (J : Table G T) (most : ℕ) (S : List State) (R : List (Rule G)) (O : List T) (room k l : ℕ)
    (top : room ≡ min (min (length S) most) 64) (rk : k ≡ min (length R) 1024) (ol : l ≡ min (length O) 4096) where
  pub fitting_from_roomy : Roomy J most S R O → Fitting J room (take k R) (take l O)
  fitting_from_roomy r = record {
    states = omega (arith, r.limited.states, r.pairs_fit, r.states_fit);
    rules_fit = omega (arith, r.limited.rules, r.rules_fit, length-take-le k R (omega arith));
    outputs_fit = omega (arith, r.limited.outputs, r.outputs_fit, length-take-le l O (omega arith));
    finals = r.limited.finals;
    pieces = r.limited.pieces;
  }

  pub begun_from_written : (n : Sizes) (S' : List State) (R' R'' : List (Rule G)) (O' O'' : List T) → Written J room n S S' (take k R) R' (take l O) O' → R'' ≡ put_mid 0 k R R' → O'' ≡ put_mid 0 l O O'
      → Begun J most n S S' R R'' O O''
  begun_from_written n S' R' R'' O' O'' w re oe =
      let rl = length-take-le k R (omega arith) in
      let ll = length-take-le l O (omega arith) in
      let f = w.fits in
      record {
        roomy = record {
          limited = record { states = omega (arith, f.states); rules = omega (arith, f.rules_fit); outputs = omega (arith, f.outputs_fit); finals = f.finals; pieces = f.pieces };
          pairs_fit = omega (arith, f.states);
          states_fit = omega (arith, f.states);
          rules_fit = omega (arith, f.rules_fit);
          outputs_fit = omega (arith, f.outputs_fit);
        };
        state_count = w.state_count;
        rule_count = w.rule_count;
        output_count = w.output_count;
        states_are = front_spliced J.states S S' w.states_are;
        rules_are = re ∙ cut_spliced J.rules R R' k (omega (arith, f.rules_fit)) (omega arith) w.rules_are;
        outputs_are = oe ∙ cut_spliced J.outputs O O' l (omega (arith, f.outputs_fit)) (omega arith) w.outputs_are;
      }

  -- what the inner call answers is what the outer one does
  pub answers_from_fills : (S' : List State) (R' : List (Rule G)) (O' : List T) (r : Result Sizes TooLarge) → Fills J room S S' (take k R) R' (take l O) O' r
      → Answers J most S S' R (put_mid 0 k R R') O (put_mid 0 l O O') r
  answers_from_fills S' R' O' (Ok n) w = begun_from_written n S' R' (put_mid 0 k R R') O' (put_mid 0 l O O') w refl refl
  answers_from_fills S' R' O' (Err e) over = λ r. over (fitting_from_roomy r)

-- there is at least one pair
pub joined_some : {G T : Type 0} (m : Model G T) (law : Lawful m) (F H : Table G T) → Sound m F → Sound m H → 1 ≤ length (joined m F H).states
unfolding joined
joined_some m law F H ok_f ok_h = simp length-map (begins_length ((0, 0) ∷ []) (pairs m F H) (pairs_begin m law F H ok_f ok_h))
