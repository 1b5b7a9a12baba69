-- The rule that is found is the machine's: what it writes stands where it says, and where it leads is its next state.
use Rattle.std.proofs.Common.{◌≡◌, ℕ, zero, suc, ◌+◌, ◌-◌, ◌<◌, ◌≤◌, Bool, true, false, cond, List, [], ◌∷◌, length, get_or, take, drop, Some, None, sum_by, Option, sym, refl, ap, ◌∙◌, subst, arith}
use Rattle.std.specs.List.{slice_get, AllByRecursion}
use Rattle.std.proofs.ByRecursion.{All-weaker}
use Rattle.std.proofs.lemmas.List.{at_drop_more, drop-drop}
use Rattle.std.proofs.lemmas.List.Sums.{sum_by-cons}
use Rattle.machine.specs.Machine.{and_then}
use Rattle.alphabet.specs.Model.{Model, SoundTerm}
use Rattle.table.specs.declared.entries.Rule.{Rule}
use Rattle.table.specs.Table.{Table, stretch, final_total_of, rule_total_of, rule_outputs}
use Rattle.table.specs.Sound.{Sound, Suits}
use Rattle.filter.specs.declared.walk.Found.{Found}
use Rattle.filter.specs.Machines.{applies, pick, found, values_of, machine_of, Leads, Finds}

-- the counts up to an item, with its own, are within the counts of all
pub total_upto : {X : Type 0} (count : X → ℕ) (xs : List X) (j : ℕ) (x : X) → slice_get xs j ≡ Some x → sum_by count (take j xs) + count x ≤ sum_by count xs
total_upto count [] j x e = grind arith
total_upto count (y ∷ xs) zero x e =
    let same : y ≡ x = cc in
    omega (arith, sum_by-cons count y xs, ap count same)
total_upto count (y ∷ xs) (suc j) x e =
    omega (arith, sum_by-cons count y xs, sum_by-cons count y (take j xs), total_upto count xs j x e)

module _ {G T : Type 0} (m : Model G T) (p s : ℕ) where
  -- one turn of the loop
  module _ (rs : List (Rule G)) (i k : ℕ) (r : Rule G) (within : i < length rs) (read : r ≡ get_or rs i r) where
    turn : (b : Bool) → applies m p s r ≡ b → found m p s i k (drop i rs) ≡ cond b (Some (record { rule = i; next = r.next; from = k; to = k + r.outputs })) (found m p s (i + 1) (k + r.outputs) (drop (i + 1) rs))
    turn b e =
        at_drop_more (found m p s i k) rs i r within
        ∙ ap (λ (x : Rule G). cond (applies m p s x) (Some (record { rule = i; next = x.next; from = k; to = k + x.outputs })) (found m p s (i + 1) (k + x.outputs) (drop (i + 1) rs))) (sym read)
        ∙ ap (λ c. cond c (Some (record { rule = i; next = r.next; from = k; to = k + r.outputs })) (found m p s (i + 1) (k + r.outputs) (drop (i + 1) rs))) e

    pub found_here : applies m p s r ≡ true → found m p s i k (drop i rs) ≡ Some (record { rule = i; next = r.next; from = k; to = k + r.outputs })
    found_here e = turn true e

    pub found_later : applies m p s r ≡ false → found m p s i k (drop i rs) ≡ found m p s (i + 1) (k + r.outputs) (drop (i + 1) rs)
    found_later e = turn false e

  -- a found rule is the rule that is picked: it stands at j in the list, and its outputs are the stretch of that rule
  pub record Picked (ts : List T) (rs : List (Rule G)) (i k : ℕ) (f : Found) : Type 0 where
    pub j : ℕ
    pub rule : Rule G
    pub number : f.rule ≡ i + j
    pub picked : pick m p s i rs ≡ Some (f.rule, rule)
    pub is : slice_get rs j ≡ Some rule
    pub next : f.next ≡ rule.next
    pub from : f.from ≡ k + rule_total_of (take j rs)
    pub to : f.to ≡ f.from + rule.outputs
    pub part : stretch (λ (r : Rule G). r.outputs) rs j (drop k ts) ≡ take (f.to - f.from) (drop f.from ts)

  pub found_picked : (ts : List T) (rs : List (Rule G)) (i k : ℕ) (f : Found) → found m p s i k rs ≡ Some f → Picked ts rs i k f
  found_picked ts [] i k f e = grind arith
  found_picked ts (r ∷ rs) i k f e = go (applies m p s r) refl (λ h. found_picked ts rs (i + 1) (k + r.outputs) f h) e
    where
      here : applies m p s r ≡ true → f ≡ record { rule = i; next = r.next; from = k; to = k + r.outputs } → Picked ts (r ∷ rs) i k f
      here b h = record {
        j = 0;
        rule = r;
        number = omega (arith, ap (λ (x : Found). x.rule) h);
        picked = rw (b, h);
        is = refl;
        next = ap (λ (x : Found). x.next) h;
        from = omega (arith, ap (λ (x : Found). x.from) h);
        to = omega (arith, ap (λ (x : Found). x.from) h, ap (λ (x : Found). x.to) h);
        part =
            let a : f.from ≡ k = ap (λ (x : Found). x.from) h in
            let z : f.to - f.from ≡ r.outputs = omega (arith, ap (λ (x : Found). x.from) h, ap (λ (x : Found). x.to) h) in
            rw (z, a);
      }

      later : applies m p s r ≡ false → Picked ts rs (i + 1) (k + r.outputs) f → Picked ts (r ∷ rs) i k f
      later b P = record {
        j = suc P.j;
        rule = P.rule;
        number = omega (arith, P.number);
        picked = rw b P.picked;
        is = P.is;
        next = P.next;
        from = omega (arith, P.from, sum_by-cons (λ (x : Rule G). x.outputs) r (take P.j rs));
        to = P.to;
        part = ap (stretch (λ (x : Rule G). x.outputs) rs P.j) (drop-drop r.outputs k ts) ∙ P.part;
      }

      go : (b : Bool) → applies m p s r ≡ b → (found m p s (i + 1) (k + r.outputs) rs ≡ Some f → Picked ts rs (i + 1) (k + r.outputs) f) → cond b (Some (record { rule = i; next = r.next; from = k; to = k + r.outputs })) (found m p s (i + 1) (k + r.outputs) rs) ≡ Some f → Picked ts (r ∷ rs) i k f
      go true b ih h = here b (cc)
      go false b ih h = later b (ih h)

  found_none : (rs : List (Rule G)) (i k : ℕ) → found m p s i k rs ≡ None → pick m p s i rs ≡ None
  found_none [] i k e = refl
  found_none (r ∷ rs) i k e = let ih = found_none rs (i + 1) (k + r.outputs) in grind arith

  module _ (F : Table G T) (S : Sound m F) where
    leads_to : (f : Found) → Picked F.outputs F.rules 0 (final_total_of F.states) f → Leads m F p s f
    unfolding machine_of
    leads_to f P =
        let same : P.j ≡ f.rule = omega (arith, P.number) in
        let part : rule_outputs F P.j ≡ take (f.to - f.from) (drop f.from F.outputs) = P.part in
        let all : AllByRecursion (SoundTerm m) (rule_outputs F P.j) = All-weaker (Suits m P.rule.guard) (SoundTerm m) (λ t h. h.0) (rule_outputs F P.j) (S.output P.j P.rule P.is) in
        record {
          steps =
              ap (λ o. and_then o (λ x. Some (x.1.next, values_of m (rule_outputs F x.0) s))) P.picked
              ∙ ap (λ n. Some (n, values_of m (rule_outputs F f.rule) s)) (sym P.next)
              ∙ ap (λ i. Some (f.next, values_of m (rule_outputs F i) s)) (sym same)
              ∙ ap (λ l. Some (f.next, values_of m l s)) part;
          ordered = omega (arith, P.to);
          within = omega (arith, P.from, P.to, S.counts, total_upto (λ (r : Rule G). r.outputs) F.rules P.j P.rule P.is);
          few = omega (arith, P.to, S.short_output P.j P.rule P.is);
          sound = subst (AllByRecursion (SoundTerm m)) part all;
        }

    -- what is found is what the machine does
    pub found_leads : (first : ℕ) → first ≡ final_total_of F.states → (r : Option Found) → r ≡ found m p s 0 first F.rules → Finds m F p s r
    unfolding machine_of
    found_leads first k None e = ap (λ o. and_then o (λ x. Some (x.1.next, values_of m (rule_outputs F x.0) s))) (found_none F.rules 0 first (sym e))
    found_leads first k (Some f) e = leads_to f (found_picked F.outputs F.rules 0 (final_total_of F.states) f (ap (λ n. found m p s 0 n F.rules) (sym k) ∙ sym e))
