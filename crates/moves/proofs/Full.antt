-- A found rule: each of its outputs has a value, there are not too many of them, and it leads to a state.
use Rattle.std.proofs.Common.{◌≡◌, ℕ, zero, suc, ◌+◌, ◌-◌, ◌<◌, ◌≤◌, Bool, true, false, cond, List, [], ◌∷◌, length, take, drop, Some, refl, ap, ◌∙◌, subst, arith}
use Rattle.std.specs.List.{slice_get, AllByRecursion}
use Rattle.std.specs.Option.{option_to_list}
use Rattle.std.proofs.lemmas.List.{length-append, length-take-le, length-drop}
use Rattle.std.proofs.lemmas.Bool.{and_parts}
use Rattle.alphabet.specs.Model.{Model}
use Rattle.table.specs.declared.entries.Rule.{Rule}
use Rattle.table.specs.Table.{Table, final_total_of}
use Rattle.table.specs.Sound.{Sound, Suits}
use Rattle.filter.specs.declared.walk.Found.{Found}
use Rattle.filter.specs.Machines.{applies, pick, values_of, Leads}
use Rattle.filter.proofs.Finds.{Picked}
use Rattle.replay.specs.Sizes.{most_of, outputs_of_lem, longest_of}

-- each count is at most the largest
pub most_least : {X : Type 0} (count : X → ℕ) (xs : List X) (j : ℕ) (x : X) → slice_get xs j ≡ Some x → count x ≤ most_of count xs
most_least count [] j x e = grind arith
most_least count (y ∷ xs) zero x e = let same : y ≡ x = cc in omega (arith, ap count same)
most_least count (y ∷ xs) (suc j) x e = let ih = most_least count xs j x e in omega arith

module _ {G T : Type 0} (m : Model G T) (p s : ℕ) where
  -- the rule that is picked holds the symbol
  pick_holds : (i : ℕ) (rs : List (Rule G)) (n : ℕ) (r : Rule G) → pick m p s i rs ≡ Some (n, r) → m.holds r.guard s ≡ true
  pick_holds i [] n r e = grind arith
  pick_holds i (x ∷ rs) n r e = go (applies m p s x) refl (λ h. pick_holds (i + 1) rs n r h) e
    where
      go : (b : Bool) → applies m p s x ≡ b → (pick m p s (i + 1) rs ≡ Some (n, r) → m.holds r.guard s ≡ true)
          → cond b (Some (i, x)) (pick m p s (i + 1) rs) ≡ Some (n, r) → m.holds r.guard s ≡ true
      go false f ih h = ih h
      go true f ih h =
          let pair : ◌≡◌ {A = ℕ × Rule G} (i, x) (n, r) = cc in
          let same : x ≡ r = ap (λ (t : ℕ × Rule G). t.1) pair in
          subst (λ (y : Rule G). m.holds y.guard s ≡ true) same (and_parts _ _ f).1

  -- terms that suit a guard have a value each
  values_full : (g : G) (ts : List T) → m.holds g s ≡ true → AllByRecursion (Suits m g) ts → length (values_of m ts s) ≡ length ts
  values_full g [] h a = refl
  values_full g (t ∷ ts) h a =
      let x = a.0.1 s h in
      let one : length (option_to_list (m.value t s)) ≡ 1 = ap (λ o. length (option_to_list o)) x.1 in
      omega (arith, length-append (option_to_list (m.value t s)) (values_of m ts s), values_full g ts h a.1, one)

  module _ (F : Table G T) (S : Sound m F) (f : Found) (L : Leads m F p s f) (P : Picked m p s F.outputs F.rules 0 (final_total_of F.states) f) where
    -- the terms that the rule writes
    abbrev part : List T
    part = take (f.to - f.from) (drop f.from F.outputs)

    -- each has a value
    pub found_full : length (values_of m part s) ≡ f.to - f.from
    found_full =
        let all : AllByRecursion (Suits m P.rule.guard) part = subst (AllByRecursion (Suits m P.rule.guard)) P.part (S.output P.j P.rule P.is) in
        let size : length part ≡ f.to - f.from = length-take-le (f.to - f.from) (drop f.from F.outputs) (simp length-drop (omega (arith, L.within, L.ordered))) in
        values_full P.rule.guard part (pick_holds 0 F.rules f.rule P.rule P.picked) all ∙ size

    -- they are no more than the longest output
    pub found_few : f.to - f.from ≤ longest_of F
    found_few = omega (arith, P.to, most_least outputs_of_lem F.rules P.j P.rule P.is)

    -- it leads to a state
    pub found_known : f.next < length F.states
    found_known = omega (arith, P.next, S.to P.j P.rule P.is)
