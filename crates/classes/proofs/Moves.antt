-- A sound filter as a machine over terms: at a symbol it writes the values of the outputs of the rule that holds it.
use Rattle.std.proofs.Common.{◌≡◌, ℕ, true, List, [], ◌∷◌, Some, None, Option, sym, refl, ap, ◌∙◌, arith}
use Rattle.std.specs.List.{slice_get, AllByRecursion}
use Rattle.std.proofs.ByRecursion.{All-weaker}
use Rattle.std.proofs.lemmas.Bool.Decides.{nat_tests}
use Rattle.machine.specs.Machine.{and_then}
use Rattle.machine.specs.Sides.{state_of, onward}
use Rattle.machine.specs.Terms.{values, Uses}
use Rattle.alphabet.specs.Model.{Model, SoundTerm}
use Rattle.table.specs.declared.entries.Rule.{Rule}
use Rattle.table.specs.Table.{Table, rule_outputs}
use Rattle.table.specs.Sound.{Sound, Suits}
use Rattle.filter.specs.Machines.{applies, pick, values_of, machine_of}
use Rattle.classes.specs.Runs.{number_of, rule_at_lem}
use Rattle.classes.proofs.Picks.{picked_from}

-- terms that suit a guard have values at each of its symbols
values_suit : {G T : Type 0} (m : Model G T) (g : G) (s : ℕ) → m.holds g s ≡ true → (ts : List T) → AllByRecursion (Suits m g) ts → values m.value ts s ≡ Some (values_of m ts s)
unfolding values
values_suit m g s held [] all = refl
values_suit m g s held (t ∷ ts) all =
    let v = all.0.1 s held in
    let ih = values_suit m g s held ts all.1 in
    rw (v.1, ih)

module _ {G T : Type 0} (m : Model G T) (F : Table G T) where
  -- where a rule leads
  abbrev pub next_of : Option ℕ → Option ℕ
  next_of None = None
  next_of (Some i) = and_then (slice_get F.rules i) (λ (r : Rule G). Some r.next)

  -- where a side goes depends on its rule alone
  pub onward_rule : (l : Option ℕ) (s : ℕ) → onward (machine_of m F) l s ≡ next_of (rule_at_lem m F l s)
  unfolding machine_of
  onward_rule None s = refl
  onward_rule (Some p) s = go (pick m p s 0 F.rules) refl
    where
      go : (o : Option (ℕ × Rule G)) → pick m p s 0 F.rules ≡ o → state_of ((machine_of m F).step p s) ≡ next_of (number_of (pick m p s 0 F.rules))
      go None e = rw e
      go (Some x) e =
          let P = picked_from m p s 0 F.rules x.0 (ap number_of e) in
          let same : x.1 ≡ P.rule = cc (e, P.picked) in
          let at : P.place ≡ x.0 = omega (arith, P.number) in
          let is : slice_get F.rules x.0 ≡ Some x.1 = ap (slice_get F.rules) (sym at) ∙ P.is ∙ ap Some (sym same) in
          rw (e, is)

  -- the outputs of a rule of a sound filter are sound
  pub outputs_sound : Sound m F → (i : ℕ) (r : Rule G) → slice_get F.rules i ≡ Some r → AllByRecursion (SoundTerm m) (rule_outputs F i)
  outputs_sound S i r is = All-weaker (Suits m r.guard) (SoundTerm m) (λ t h. h.0) (rule_outputs F i) (S.output i r is)

  -- on a symbol that a rule holds, the filter writes the values of its outputs
  pub rule_uses : Sound m F → (p s i : ℕ) (r : Rule G) → slice_get F.rules i ≡ Some r → rule_at_lem m F (Some p) s ≡ Some i
      → Uses m.value (machine_of m F) p s r.next (rule_outputs F i)
  unfolding machine_of
  rule_uses S p s i r is e =
      let P = picked_from m p s 0 F.rules i e in
      let at : P.place ≡ i = omega (arith, P.number) in
      let same : P.rule ≡ r = cc (P.is, at, is) in
      let here : applies m p s r ≡ true = ap (applies m p s) (sym same) ∙ P.applied in
      let held : m.holds r.guard s ≡ true = grind (arith, nat_tests) in
      record {
        word = values_of m (rule_outputs F i) s;
        goes = ap (λ o. and_then o (λ x. Some (x.1.next, values_of m (rule_outputs F x.0) s))) P.picked ∙ ap (λ (x : Rule G). Some (x.next, values_of m (rule_outputs F i) s)) same;
        writes = values_suit m r.guard s held (rule_outputs F i) (S.output i r is);
      }
