-- A claim that passes its test is true.
use Rattle.std.proofs.Common.{◌≡◌, ℕ, Bool, true, ◌&&◌, List, [], ◌∷◌, Some, None, Ok, Err, Option, refl, ap, arith}
use Rattle.std.specs.List.{AllByRecursion}
use Rattle.std.proofs.lemmas.Bool.{and_parts}
use Rattle.std.proofs.lemmas.Bool.Decides.{nat_tests}
use Rattle.machine.specs.Machine.{transduced}
use Rattle.alphabet.specs.Model.{Model}
use Rattle.alphabet.specs.Laws.{Lawful}
use Rattle.alphabet.specs.declared.cause.Cause.{Cause}
use Rattle.alphabet.specs.declared.cause.Cause.TheVariants.{NoSymbols, BeyondSize, OutOfBounds, NotSuiting}
use Rattle.table.specs.declared.fault.TableFault.{TableFault}
use Rattle.table.specs.declared.fault.TableFault.TheVariants.{Limits, BadState, MissingState, UnsoundGuard, LongOutput, OutputCount, NotConstant, UnsoundOutput, Overlap}
use Rattle.table.specs.Table.{Table}
use Rattle.table.specs.Check.{Checked, checked}
use Rattle.table.specs.Sound.{Sound}
use Rattle.table.proofs.Soundness.{sound_from_checked}
use Rattle.filter.specs.Machines.{machine_of}
use Rattle.filter.proofs.Moves.{step_moves}
use Rattle.filter.proofs.Meanings.{transduced_writes}
use Rattle.equivalence.proofs.Deciding.{decided}
use Rattle.certificates.specs.Same.{same_output}
use Rattle.certificates.specs.Certificates.{certified}
use Rattle.certificates.specs.Earliest.{differs_at}
use Rattle.certificates.specs.Theorems.{Within}
use Rattle.certificates.proofs.Same.{same_output_lem}
use Rattle.certificates.proofs.Certified.{equivalent}
use Rattle.certificates.proofs.Earliest.{earliest}
use Rattle.specimens.specs.Claims.{Claim, Faultless, Unsuited, Written, AreEquivalent, DifferAt, passes, is_not_suiting, is_unsuited, stops_at, Means, all_faultless, both_pass, tested, all_tested}

passed : (r : Checked) → passes r ≡ true → r ≡ Ok tt
passed (Ok x) e = refl
passed (Err f) e = grind arith

not_suiting : (c : Cause) → is_not_suiting c ≡ true → c ≡ NotSuiting
not_suiting NoSymbols e = grind arith
not_suiting BeyondSize e = grind arith
not_suiting OutOfBounds e = grind arith
not_suiting NotSuiting e = refl

unsuited : (k : ℕ) (f : TableFault) → is_unsuited k f ≡ true → f ≡ UnsoundOutput k NotSuiting
unsuited k Limits e = grind arith
unsuited k (BadState q) e = grind arith
unsuited k (MissingState i) e = grind arith
unsuited k (UnsoundGuard i c) e = grind arith
unsuited k (LongOutput i) e = grind arith
unsuited k OutputCount e = grind arith
unsuited k (NotConstant j) e = grind arith
unsuited k (UnsoundOutput j c) e = let n = not_suiting c in grind (arith, nat_tests)
unsuited k (Overlap i) e = grind arith

stopped : (k : ℕ) (r : Checked) → stops_at k r ≡ true → r ≡ Err (UnsoundOutput k NotSuiting)
stopped k (Ok x) e = grind arith
stopped k (Err f) e = ap Err (unsuited k f e)

module _ {G T : Type 0} (m : Model G T) (L : Lawful m) where
  sound : (F : Table G T) → passes (checked m F) ≡ true → Sound m F
  sound F e = sound_from_checked m L F (passed (checked m F) e)

  all_sound : (filters : List (Table G T)) → all_faultless m filters ≡ true → AllByRecursion (Sound m) filters
  unfolding all_faultless
  all_sound [] e = tt
  all_sound (F ∷ filters) e =
      let h = and_parts (passes (checked m F)) (all_faultless m filters) e in (sound F h.0, all_sound filters h.1)

  -- a sound filter has no move on a number that is no symbol
  within : (F : Table G T) → Sound m F → Within m.size (machine_of m F)
  within F S q s beyond = go ((machine_of m F).step q s) refl
    where
      go : (o : Option (ℕ × List ℕ)) → (machine_of m F).step q s ≡ o → o ≡ None
      go None e = refl
      go (Some r) e =
          let M = step_moves m F S q s r.1 r.0 e in
          let below = L.guard_inside M.rule.guard s (S.guard M.number M.rule M.is) M.holds in
          absurd (omega arith)

  both_sound : (F H : Table G T) (t : Bool) → (both_pass m F H && t) ≡ true → Sound m F × Sound m H × (t ≡ true)
  both_sound F H t e =
      let outer = and_parts (both_pass m F H) t e in
      let inner = and_parts (passes (checked m F)) (passes (checked m H)) outer.0 in
      (sound F inner.0, sound H inner.1, outer.1)

  claimed : (c : Claim G T) → tested m c ≡ true → Means m c
  unfolding tested
  claimed (Faultless filters) e = all_sound filters e
  claimed (Unsuited F k) e = stopped k (checked m F) e
  claimed (Written F u v) e =
      let h = and_parts (passes (checked m F)) (same_output (transduced (machine_of m F) u) (Some v)) e in
      transduced_writes m F L (sound F h.0) u v (same_output_lem (transduced (machine_of m F) u) (Some v) h.1)
  claimed (AreEquivalent F H points) e =
      let h = both_sound F H (certified (machine_of m F) (machine_of m H) m.size points) e in
      decided m F H L h.0 h.1 None
      (equivalent (machine_of m F) (machine_of m H) m.size (within F h.0) (within H h.1) points h.2)
  claimed (DifferAt F H t) e =
      let h = both_sound F H (differs_at (machine_of m F) (machine_of m H) m.size t) e in
      decided m F H L h.0 h.1 (Some t)
      (earliest (machine_of m F) (machine_of m H) m.size (within F h.0) (within H h.1) t h.2)

  pub all_claimed : (cs : List (Claim G T)) → all_tested m cs ≡ true → AllByRecursion (Means m) cs
  unfolding all_tested
  all_claimed [] e = tt
  all_claimed (c ∷ cs) e = let h = and_parts (tested m c) (all_tested m cs) e in (claimed c h.0, all_claimed cs h.1)
