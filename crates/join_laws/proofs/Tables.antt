-- A table made of final outputs and lines has those final outputs and lines.
use Rattle.std.proofs.Common.{◌≡◌, ℕ, zero, suc, ◌<◌, cond, eqb, List, [], ◌∷◌, ◌++◌, map, length, get_or, take, drop, Some, None, Option, sym, refl, ap, ◌∙◌, append_assoc, arith}
use Rattle.std.specs.List.{slice_get, AllByRecursion}
use Rattle.std.specs.Option.{option_to_list}
use Rattle.std.proofs.ByRecursion.{All-get_or}
use Rattle.std.proofs.lemmas.List.{take_at, drop_at, length-append, length-map}
use Rattle.std.proofs.lemmas.List.Sums.{sum_by-cons}
use Rattle.machine.specs.Machine.{and_then}
use Rattle.alphabet.specs.Model.{Model}
use Rattle.alphabet.specs.Laws.{Lawful}
use Rattle.table.specs.declared.entries.State.{State}
use Rattle.table.specs.Table.{stretch, final_total_of, rule_total_of, all_rule_outputs}
use Rattle.filter.specs.Machines.{values_of, machine_of}
use Rattle.join_laws.specs.Lists.{gathered}
use Rattle.join_laws.specs.Lines.{Line, line_of, lines_from, lines_of, rule_of_lem, state_of, constants, table_from}
use Rattle.join_laws.proofs.Lines.{width}

-- the outputs of a line
abbrev pub outputs_of_lem : {G T : Type 0} → Line G T → List T
outputs_of_lem l = l.outputs

pub nth_map : {X Y : Type 0} (f : X → Y) (xs : List X) (i : ℕ) (y : Y) → slice_get (map f xs) i ≡ Some y → (x : X) × (slice_get xs i ≡ Some x) × (y ≡ f x)
nth_map f [] i y e = absurd (grind arith)
nth_map f (x ∷ xs) zero y e = (x, refl, cc)
nth_map f (x ∷ xs) (suc i) y e = nth_map f xs i y e

-- the lines that rules and outputs are made of
lines_back : {G T : Type 0} (ls : List (Line G T)) → lines_from (map rule_of_lem ls) (gathered outputs_of_lem ls) ≡ ls
lines_back [] = refl
lines_back (l ∷ ls) =
    ap (λ ts. line_of (rule_of_lem l) ts ∷ lines_from (map rule_of_lem ls) (drop (length l.outputs) (l.outputs ++ gathered outputs_of_lem ls))) (take_at l.outputs (gathered outputs_of_lem ls) (length l.outputs) refl)
    ∙ ap (λ ts. l ∷ lines_from (map rule_of_lem ls) ts) (drop_at l.outputs (gathered outputs_of_lem ls) (length l.outputs) refl)
    ∙ ap (λ k. l ∷ k) (lines_back ls)

pub stretch_line : {G T : Type 0} (ls : List (Line G T)) (i : ℕ) (l : Line G T) → slice_get ls i ≡ Some l → stretch width (map rule_of_lem ls) i (gathered outputs_of_lem ls) ≡ l.outputs
stretch_line [] i l e = absurd (grind arith)
stretch_line (k ∷ ls) zero l e =
    let same : k ≡ l = cc in
    take_at k.outputs (gathered outputs_of_lem ls) (length k.outputs) refl ∙ ap outputs_of_lem same
stretch_line (k ∷ ls) (suc i) l e =
    ap (stretch width (map rule_of_lem ls) i) (drop_at k.outputs (gathered outputs_of_lem ls) (length k.outputs) refl) ∙ stretch_line ls i l e

pub rule_total_lem : {G T : Type 0} (ls : List (Line G T)) → rule_total_of (map rule_of_lem ls) ≡ length (gathered outputs_of_lem ls)
rule_total_lem [] = refl
rule_total_lem (l ∷ ls) =
    sum_by-cons width (rule_of_lem l) (map rule_of_lem ls) ∙ omega (arith, rule_total_lem ls, length-append l.outputs (gathered outputs_of_lem ls))

module _ {G T : Type 0} (m : Model G T) where
  constants_length : (o : Option (List ℕ)) → length (constants m o) ≡ (state_of o).finals
  constants_length None = refl
  constants_length (Some w) = length-map w m.constant

  pub final_total_lem : (fs : List (Option (List ℕ))) → final_total_of (map state_of fs) ≡ length (gathered (constants m) fs)
  final_total_lem [] = refl
  final_total_lem (f ∷ fs) =
      sum_by-cons (λ (s : State). s.finals) (state_of f) (map state_of fs)
      ∙ omega (arith, final_total_lem fs, constants_length f, length-append (constants m f) (gathered (constants m) fs))

  -- the final outputs of a state
  pub stretch_finals : (fs : List (Option (List ℕ))) (X : List T) (i : ℕ) → stretch (λ (s : State). s.finals) (map state_of fs) i (gathered (constants m) fs ++ X) ≡ constants m (get_or fs i None)
  stretch_finals [] X i = refl
  stretch_finals (f ∷ fs) X zero =
      ap (take (state_of f).finals) (append_assoc (constants m f) (gathered (constants m) fs) X)
      ∙ take_at (constants m f) (gathered (constants m) fs ++ X) (state_of f).finals (constants_length f)
  stretch_finals (f ∷ fs) X (suc i) =
      ap (λ l. stretch (λ (s : State). s.finals) (map state_of fs) i (drop (state_of f).finals l)) (append_assoc (constants m f) (gathered (constants m) fs) X)
      ∙ ap (stretch (λ (s : State). s.finals) (map state_of fs) i) (drop_at (constants m f) (gathered (constants m) fs ++ X) (state_of f).finals (constants_length f))
      ∙ stretch_finals fs X i

  module _ (fs : List (Option (List ℕ))) (ls : List (Line G T)) where
    pub rule_outputs_lem : all_rule_outputs (table_from m fs ls) ≡ gathered outputs_of_lem ls
    rule_outputs_lem = drop_at (gathered (constants m) fs) (gathered outputs_of_lem ls) (final_total_of (map state_of fs)) (sym (final_total_lem fs))

    pub lines_same : lines_of (table_from m fs ls) ≡ ls
    unfolding lines_of
    lines_same = ap (lines_from (map rule_of_lem ls)) rule_outputs_lem ∙ lines_back ls

  -- all symbols of a final output are symbols of the alphabet
  abbrev pub Symbols : Option (List ℕ) → Type 0
  Symbols None = Unit {0}
  Symbols (Some w) = AllByRecursion (λ c. c < m.size) w

  module _ (law : Lawful m) where
    constants_values : (w : List ℕ) → AllByRecursion (λ c. c < m.size) w → values_of m (map m.constant w) 0 ≡ w
    constants_values [] all = refl
    constants_values (c ∷ w) (h, all) =
        ap (λ o. option_to_list o ++ values_of m (map m.constant w) 0) (law.constant_value c 0 h (omega (arith, law.size_low)))
        ∙ ap (λ l. c ∷ l) (constants_values w all)

    pub final_same : (fs : List (Option (List ℕ))) (ls : List (Line G T)) (i : ℕ) → i < length fs → AllByRecursion Symbols fs
        → (machine_of m (table_from m fs ls)).final i ≡ get_or fs i None
    unfolding machine_of
    final_same fs ls i h all =
        ap (λ ts. and_then (slice_get (map state_of fs) i) (λ (e : State). cond (eqb e.mark 1) (Some (values_of m ts 0)) None)) (stretch_finals fs (gathered outputs_of_lem ls) i)
        ∙ ap (λ o. and_then o (λ (e : State). cond (eqb e.mark 1) (Some (values_of m (constants m (get_or fs i None)) 0)) None)) (state_at fs i h)
        ∙ go (get_or fs i None) (All-get_or Symbols fs i None h all)
      where
        state_at : (fs : List (Option (List ℕ))) (i : ℕ) → i < length fs → slice_get (map state_of fs) i ≡ Some (state_of (get_or fs i None))
        state_at [] i h = absurd (omega arith)
        state_at (f ∷ fs) zero h = refl
        state_at (f ∷ fs) (suc i) h = state_at fs i (omega arith)

        go : (o : Option (List ℕ)) → Symbols o → cond (eqb (state_of o).mark 1) (Some (values_of m (constants m o) 0)) None ≡ o
        go None s = refl
        go (Some w) s = ap Some (constants_values w s)
