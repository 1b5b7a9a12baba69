-- The final output of a state: where its terms stand, and that it is the machine's.
use Rattle.std.proofs.Common.{◌≡◌, ℕ, zero, suc, ◌+◌, ◌-◌, ◌≤◌, List, [], ◌∷◌, length, take, drop, Some, None, sum_by, sym, ap, ◌∙◌, subst, arith}
use Rattle.std.specs.List.{slice_get, AllByRecursion}
use Rattle.std.proofs.ByRecursion.{All-weaker}
use Rattle.std.proofs.lemmas.List.{drop-drop}
use Rattle.std.proofs.lemmas.Option.{slice_get_past}
use Rattle.std.proofs.lemmas.List.Sums.{sum_by-cons}
use Rattle.std.proofs.lemmas.Bool.{eq-eqb, ne_eqb}
use Rattle.alphabet.specs.Model.{Model, SoundTerm}
use Rattle.table.specs.declared.entries.State.{State}
use Rattle.table.specs.Table.{Table, stretch, final_total_of, final_outputs}
use Rattle.table.specs.Sound.{Sound, Constant}
use Rattle.filter.specs.Machines.{values_of, machine_of}
use Rattle.filter.proofs.Finds.{total_upto}

-- the stretch of an item begins behind those of the earlier ones
pub stretch_is : {X T : Type 0} (count : X → ℕ) (xs : List X) (q : ℕ) (x : X) (ts : List T) → slice_get xs q ≡ Some x → stretch count xs q ts ≡ take (count x) (drop (sum_by count (take q xs)) ts)
stretch_is count [] q x ts e = grind arith
stretch_is count (y ∷ xs) zero x ts e =
    let same : y ≡ x = cc in
    ap (λ z. take (count z) ts) same
stretch_is count (y ∷ xs) (suc q) x ts e =
    stretch_is count xs q x (drop (count y) ts) e
    ∙ ap (take (count x)) (drop-drop (sum_by count (take q xs)) (count y) ts)
    ∙ ap (λ n. take (count x) (drop n ts)) (sym (sum_by-cons count y (take q xs)))

module _ {G T : Type 0} (m : Model G T) (F : Table G T) (q : ℕ) where
  pub final_missing : length F.states ≤ q → (machine_of m F).final q ≡ None
  unfolding machine_of
  final_missing h = rw (slice_get_past F.states q h)

  module _ (e : State) (is : slice_get F.states q ≡ Some e) where
    pub final_rejects : (e.mark ≡ 1 → ⊥) → (machine_of m F).final q ≡ None
    unfolding machine_of
    final_rejects h = rw (is, ne_eqb e.mark 1 h)

    -- where the final outputs of the state stand
    abbrev pub final_part : List T
    final_part = take e.finals (drop (final_total_of (take q F.states)) F.outputs)

    pub final_part_lem : final_outputs F q ≡ final_part
    final_part_lem = stretch_is (λ (s : State). s.finals) F.states q e F.outputs is

    pub final_accepts : e.mark ≡ 1 → (machine_of m F).final q ≡ Some (values_of m final_part 0)
    unfolding machine_of
    final_accepts h = rw (is, eq-eqb e.mark 1 h, final_part_lem)

    module _ (S : Sound m F) where
      pub final_within : final_total_of (take q F.states) + e.finals ≤ length F.outputs
      final_within = omega (arith, S.counts, total_upto (λ (s : State). s.finals) F.states q e is)

      pub final_sound : AllByRecursion (SoundTerm m) final_part
      final_sound = subst (AllByRecursion (SoundTerm m)) final_part_lem (All-weaker (Constant m) (SoundTerm m) (λ t h. h.0) (final_outputs F q) (S.final q))

    pub before : final_total_of (take (q - 0) F.states) ≡ final_total_of (take q F.states)
    before = let z : q - 0 ≡ q = omega arith in ap (λ n. final_total_of (take n F.states)) z

    -- the part that a slice from k on shows, where k is the sum of the earlier counts
    pub part_at : (k : ℕ) → k ≡ final_total_of (take (q - 0) F.states) → take ((k + e.finals) - k) (drop k F.outputs) ≡ final_part
    part_at k h =
        let size : (k + e.finals) - k ≡ e.finals = omega arith in
        ap (λ n. take n (drop k F.outputs)) size ∙ ap (λ n. take e.finals (drop n F.outputs)) (h ∙ before)
