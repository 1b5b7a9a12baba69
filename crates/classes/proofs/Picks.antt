-- The rule that is picked at a symbol: where it stands, that it applies, and that no other does.
use Rattle.std.proofs.Common.{◌≡◌, ℕ, zero, suc, ◌+◌, ◌<◌, Bool, true, false, cond, ◌||◌, List, [], ◌∷◌, ◌++◌, is_some, Some, None, Option, sym, refl, ap, ◌∙◌, arith}
use Rattle.std.specs.List.{slice_get}
use Rattle.std.proofs.lemmas.Bool.{both_ways}
use Rattle.std.proofs.lemmas.Bool.Decides.{nat_tests}
use Rattle.alphabet.specs.Model.{Model}
use Rattle.table.specs.declared.entries.Rule.{Rule}
use Rattle.table.specs.Table.{Table}
use Rattle.table.specs.Sound.{Sound}
use Rattle.filter.specs.declared.walk.Found.{Found}
use Rattle.filter.specs.Machines.{applies, pick, found}
use Rattle.classes.specs.Runs.{number_of, rule_at_lem}

-- the number of a rule that is found
abbrev pub rule_of_lem : Option Found → Option ℕ
rule_of_lem None = None
rule_of_lem (Some f) = Some f.rule

module _ {G T : Type 0} (m : Model G T) (p s : ℕ) where
  -- the rule that is found is the one that is picked
  pub found_number : (i k : ℕ) (rs : List (Rule G)) → rule_of_lem (found m p s i k rs) ≡ number_of (pick m p s i rs)
  found_number i k [] = refl
  found_number i k (r ∷ rs) = go (applies m p s r) (found_number (i + 1) (k + r.outputs) rs)
    where
      go : (b : Bool) → rule_of_lem (found m p s (i + 1) (k + r.outputs) rs) ≡ number_of (pick m p s (i + 1) rs)
          → rule_of_lem (cond b (Some (record { rule = i; next = r.next; from = k; to = k + r.outputs })) (found m p s (i + 1) (k + r.outputs) rs)) ≡ number_of (cond b (Some (i, r)) (pick m p s (i + 1) rs))
      go true ih = refl
      go false ih = ih

  -- some rule of a list is picked
  abbrev pub picks : List (Rule G) → Bool
  picks rs = is_some (number_of (pick m p s 0 rs))

  -- one more rule at the end
  pub pick_more : (i : ℕ) (rs : List (Rule G)) (r : Rule G) → is_some (number_of (pick m p s i (rs ++ (r ∷ [])))) ≡ (is_some (number_of (pick m p s i rs)) || applies m p s r)
  pick_more i [] r = go (applies m p s r)
    where
      go : (b : Bool) → is_some (number_of (cond b (Some (i, r)) None)) ≡ b
      go true = refl
      go false = refl
  pick_more i (x ∷ rs) r = go (applies m p s x) (pick_more (i + 1) rs r)
    where
      go : (b : Bool) → is_some (number_of (pick m p s (i + 1) (rs ++ (r ∷ [])))) ≡ (is_some (number_of (pick m p s (i + 1) rs)) || applies m p s r)
          → is_some (number_of (cond b (Some (i, x)) (pick m p s (i + 1) (rs ++ (r ∷ []))))) ≡ (is_some (number_of (cond b (Some (i, x)) (pick m p s (i + 1) rs))) || applies m p s r)
      go true ih = refl
      go false ih = ih

  -- the picked rule stands at its number, and applies
  pub record Picked (rs : List (Rule G)) (i n : ℕ) : Type 0 where
    pub place : ℕ
    pub rule : Rule G
    pub number : n ≡ i + place
    pub picked : pick m p s i rs ≡ Some (n, rule)
    pub is : slice_get rs place ≡ Some rule
    pub applied : applies m p s rule ≡ true

  pub picked_from : (i : ℕ) (rs : List (Rule G)) (n : ℕ) → number_of (pick m p s i rs) ≡ Some n → Picked rs i n
  picked_from i [] n e = grind arith
  picked_from i (r ∷ rs) n e = go (applies m p s r) refl (picked_from (i + 1) rs n) e
    where
      go : (b : Bool) → applies m p s r ≡ b → (number_of (pick m p s (i + 1) rs) ≡ Some n → Picked rs (i + 1) n)
          → number_of (cond b (Some (i, r)) (pick m p s (i + 1) rs)) ≡ Some n → Picked (r ∷ rs) i n
      go true b ih h =
          let same : i ≡ n = cc in
          record { place = 0; rule = r; number = omega arith; picked = rw (b, same); is = refl; applied = b }
      go false b ih h =
          let P = ih h in
          record { place = suc P.place; rule = P.rule; number = omega (arith, P.number); picked = rw b P.picked; is = P.is; applied = P.applied }

  -- where a rule applies, one is picked
  pub picked_some : (i : ℕ) (rs : List (Rule G)) (j : ℕ) (r : Rule G) → slice_get rs j ≡ Some r → applies m p s r ≡ true → is_some (number_of (pick m p s i rs)) ≡ true
  picked_some i [] j r e h = grind arith
  picked_some i (x ∷ rs) zero r e h =
      let same : x ≡ r = cc in
      let b : applies m p s x ≡ true = ap (applies m p s) same ∙ h in
      rw b
  picked_some i (x ∷ rs) (suc j) r e h = go (applies m p s x) (picked_some (i + 1) rs j r e h)
    where
      go : (b : Bool) → is_some (number_of (pick m p s (i + 1) rs)) ≡ true → is_some (number_of (cond b (Some (i, x)) (pick m p s (i + 1) rs))) ≡ true
      go true ih = refl
      go false ih = ih

-- the rule of a side at a symbol: one of its state, whose guard holds the symbol
pub record Held {G T : Type 0} (m : Model G T) (F : Table G T) (l : Option ℕ) (s i : ℕ) : Type 0 where
  pub p : ℕ
  pub alive : l ≡ Some p
  pub rule : Rule G
  pub is : slice_get F.rules i ≡ Some rule
  pub state : rule.state ≡ p
  pub holds : m.holds rule.guard s ≡ true

pub held_rule : {G T : Type 0} (m : Model G T) (F : Table G T) (l : Option ℕ) (s i : ℕ) → rule_at_lem m F l s ≡ Some i → Held m F l s i
held_rule m F None s i e = grind arith
held_rule m F (Some q) s i e =
    let P = picked_from m q s 0 F.rules i e in
    let at : P.place ≡ i = omega (arith, P.number) in
    record {
      p = q;
      alive = refl;
      rule = P.rule;
      is = ap (slice_get F.rules) (sym at) ∙ P.is;
      state = grind (arith, nat_tests, P.applied);
      holds = grind (arith, nat_tests, P.applied);
    }

-- no two rules of a sound filter apply: the one that does is picked
module _ {G T : Type 0} (m : Model G T) (F : Table G T) (S : Sound m F) (l : Option ℕ) (p s i : ℕ) (alive : l ≡ Some p) (r : Rule G)
    (is : slice_get F.rules i ≡ Some r) (state : r.state ≡ p) (holds : m.holds r.guard s ≡ true) where
  only : (n : ℕ) → rule_at_lem m F l s ≡ Some n → n ≡ i
  only n e =
      let K = held_rule m F l s n e in
      let same : K.p ≡ p = cc (K.alive, alive) in
      let states : K.rule.state ≡ r.state = K.state ∙ same ∙ sym state in
      let below : n < i → ⊥ = λ less. let z = S.apart n i r K.rule less K.is is states s in grind (arith, K.holds) in
      let above : i < n → ⊥ = λ less. let z = S.apart i n K.rule r less is K.is (sym states) s in grind (arith, K.holds) in
      grind (arith, below, above)

  pub rule_only : rule_at_lem m F l s ≡ Some i
  rule_only = go (rule_at_lem m F l s) refl
    where
      here : applies m p s r ≡ true
      here = grind (arith, nat_tests)

      some : is_some (rule_at_lem m F l s) ≡ true
      some = rw alive (picked_some m p s 0 F.rules i r is here)

      go : (o : Option ℕ) → rule_at_lem m F l s ≡ o → rule_at_lem m F l s ≡ Some i
      go None e = absurd (both_ways (is_some (rule_at_lem m F l s)) (ap is_some e) some)
      go (Some n) e = e ∙ ap Some (only n e)
