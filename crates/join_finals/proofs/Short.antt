-- A sound filter writes at most 32 symbols at a symbol, and at an end.
use Rattle.std.proofs.Common.{◌≡◌, ℕ, ◌≤◌, Bool, true, false, cond, eqb, List, length, take, drop, Some, None, sum_by, Option, sym, refl, ap, subst, arith}
use Rattle.std.specs.List.{slice_get, AllByRecursion}
use Rattle.std.proofs.lemmas.List.{length-take}
use Rattle.machine.specs.Machine.{and_then}
use Rattle.alphabet.specs.Model.{Model}
use Rattle.table.specs.declared.entries.State.{State}
use Rattle.table.specs.declared.entries.Rule.{Rule}
use Rattle.table.specs.Table.{Table, stretch, final_outputs, all_rule_outputs}
use Rattle.table.specs.Sound.{Sound}
use Rattle.table.proofs.Places.{all_from_at_each}
use Rattle.filter.specs.Machines.{values_of, machine_of}
use Rattle.filter.proofs.Emits.{values_few}
use Rattle.filter.proofs.Finals.{stretch_is}
use Rattle.join_laws.specs.Lists.{first}
use Rattle.join_laws.specs.Lines.{Line, line_of, lines_from, lines_of, fires, goes}
use Rattle.join_laws.proofs.Firsts.{first_all}
use Rattle.join_laws.proofs.Lines.{width, nth_lines, step_is}

-- what is written, at most 32 of it
abbrev pub Short : Option (ℕ × List ℕ) → Type 0
Short None = Unit {0}
Short (Some r) = length r.1 ≤ 32

abbrev pub ShortEnd : Option (List ℕ) → Type 0
ShortEnd None = Unit {0}
ShortEnd (Some y) = length y ≤ 32

stretch_short : {X T : Type 0} (count : X → ℕ) (xs : List X) (i : ℕ) (x : X) (ts : List T) → slice_get xs i ≡ Some x → length (stretch count xs i ts) ≤ count x
stretch_short count xs i x ts e =
    omega (arith, ap length (stretch_is count xs i x ts e), length-take (count x) (drop (sum_by count (take i xs)) ts))

module _ {G T : Type 0} (m : Model G T) (F : Table G T) (S : Sound m F) where
  lines_short : AllByRecursion (λ (l : Line G T). length l.outputs ≤ 32) (lines_of F)
  unfolding lines_of
  lines_short = all_from_at_each (λ (l : Line G T). length l.outputs ≤ 32) (lines_from F.rules (all_rule_outputs F)) (λ i l e. go i l (nth_lines F.rules (all_rule_outputs F) i l e))
    where
      go : (i : ℕ) (l : Line G T) → (r : Rule G) × (slice_get F.rules i ≡ Some r) × (l ≡ line_of r (stretch width F.rules i (all_rule_outputs F))) → length l.outputs ≤ 32
      go i l (r, a, b) = omega (arith, ap (λ (k : Line G T). length k.outputs) b, stretch_short width F.rules i r (all_rule_outputs F) a, S.short_output i r a)

  pub step_short : (q s : ℕ) → Short ((machine_of m F).step q s)
  step_short q s = subst Short (sym (step_is m F q s)) (go (first (fires m q s) (lines_of F)) refl)
    where
      go : (o : Option (Line G T)) → first (fires m q s) (lines_of F) ≡ o → Short (and_then o (goes m s))
      go None e = tt
      go (Some l) e =
          let k = first_all (fires m q s) (λ (l : Line G T). length l.outputs ≤ 32) (lines_of F) l lines_short e in
          omega (arith, values_few m l.outputs s)

  pub final_short : (q : ℕ) → ShortEnd ((machine_of m F).final q)
  unfolding machine_of
  final_short q = go (slice_get F.states q) refl
    where
      go : (o : Option State) → slice_get F.states q ≡ o → ShortEnd (and_then o (λ (e : State). cond (eqb e.mark 1) (Some (values_of m (final_outputs F q) 0)) None))
      go None e = tt
      go (Some st) e = by (eqb st.mark 1)
        where
          by : (b : Bool) → ShortEnd (cond b (Some (values_of m (final_outputs F q) 0)) None)
          by true = omega (arith, values_few m (final_outputs F q) 0, stretch_short (λ (x : State). x.finals) F.states q st F.outputs e, S.short_final q st e)
          by false = tt
