-- The moves of a sound filter are the steps of its machine.
use Rattle.std.proofs.Common.{◌≡◌, ℕ, zero, suc, ◌+◌, ◌<◌, Bool, true, false, cond, List, [], ◌∷◌, Some, None, Option, sym, refl, ap, ◌∙◌, subst, arith}
use Rattle.std.specs.List.{slice_get, AllByRecursion}
use Rattle.std.proofs.ByRecursion.{All-weaker}
use Rattle.std.proofs.lemmas.Bool.Decides.{nat_tests}
use Rattle.machine.specs.Machine.{and_then}
use Rattle.alphabet.specs.Model.{Model}
use Rattle.table.specs.declared.entries.Rule.{Rule}
use Rattle.table.specs.Table.{Table, rule_outputs}
use Rattle.table.specs.Sound.{Sound, Suits}
use Rattle.filter.specs.Machines.{values_of, applies, pick, machine_of}
use Rattle.filter.specs.Meaning.{Values, Move}

-- what there is in the end, there was something to make of
pub some_before : {X Y : Type 0} (o : Option X) (f : X → Option Y) (y : Y) → and_then o f ≡ Some y → (x : X) × (o ≡ Some x) × (f x ≡ Some y)
some_before None f y e = absurd (grind arith)
some_before (Some x) f y e = (x, refl, e)

module _ {G T : Type 0} (m : Model G T) where
  -- the values of terms are those that the function gives
  pub values_are : (ts : List T) (s : ℕ) (v : List ℕ) → Values m ts s v → values_of m ts s ≡ v
  values_are [] s [] h = refl
  values_are [] s (x ∷ v) h = absurd h
  values_are (t ∷ ts) s [] h = absurd h
  values_are (t ∷ ts) s (x ∷ v) h = rw (h.0, values_are ts s v h.1)

  -- where each term has a value, they have these
  pub values_at : (ts : List T) (s : ℕ) → AllByRecursion (λ t. (x : ℕ) × (m.value t s ≡ Some x)) ts → Values m ts s (values_of m ts s)
  values_at [] s h = tt
  values_at (t ∷ ts) s h = go h.0 (values_at ts s h.1)
    where
      go : (x : ℕ) × (m.value t s ≡ Some x) → Values m ts s (values_of m ts s) → Values m (t ∷ ts) s (values_of m (t ∷ ts) s)
      go x r = rw x.1 (x.1, r)

  module _ (p s : ℕ) where
    -- the rule at j is picked where it applies and none before it does
    picks : (rs : List (Rule G)) (i j n : ℕ) (r : Rule G) → n ≡ i + j → slice_get rs j ≡ Some r → applies m p s r ≡ true
        → ((k : ℕ) (e : Rule G) → k < j → slice_get rs k ≡ Some e → applies m p s e ≡ false) → pick m p s i rs ≡ Some (n, r)
    picks [] i j n r k e a before = absurd (grind arith)
    picks (x ∷ rs) i zero n r k e a before = let z : i ≡ n = omega arith in let y : x ≡ r = cc in rw (y, a, z)
    picks (x ∷ rs) i (suc j) n r k e a before =
        let b = before 0 x (omega arith) refl in
        rw b (picks rs (i + 1) j n r (omega arith) e a (λ k e l. before (suc k) e (omega arith)))

    -- the rule stands in the list by its number, where the first has the number i, and applies
    abbrev Stands : List (Rule G) → ℕ → ℕ → Rule G → Type 0
    Stands rs i n r = (j : ℕ) × (n ≡ i + j) × (slice_get rs j ≡ Some r) × (applies m p s r ≡ true)

    -- a picked rule does
    picked : (rs : List (Rule G)) (i n : ℕ) (r : Rule G) → pick m p s i rs ≡ Some (n, r) → Stands rs i n r
    picked [] i n r e = absurd (grind arith)
    picked (x ∷ rs) i n r e = go (applies m p s x) refl (λ h. later (picked rs (i + 1) n r h)) e
      where
        later : Stands rs (i + 1) n r → Stands (x ∷ rs) i n r
        later h = (suc h.0, omega arith, h.2, h.3)

        go : (b : Bool) → applies m p s x ≡ b → (pick m p s (i + 1) rs ≡ Some (n, r) → Stands (x ∷ rs) i n r)
            → cond b (Some (i, x)) (pick m p s (i + 1) rs) ≡ Some (n, r) → Stands (x ∷ rs) i n r
        go true b behind e =
            let same : ◌≡◌ {A = ℕ × Rule G} (i, x) (n, r) = cc in
            let rule : x ≡ r = ap (λ (y : ℕ × Rule G). y.1) same in
            (0, omega (arith, ap (λ (y : ℕ × Rule G). y.0) same), ap Some rule, rw rule at b)
        go false b behind e = behind e

  module _ (F : Table G T) (S : Sound m F) (p s : ℕ) (v : List ℕ) (q : ℕ) where
    -- a move is the step: no rule before the one of the move applies
    pub move_steps : Move m F p s v q → (machine_of m F).step p s ≡ Some (q, v)
    unfolding machine_of
    move_steps M =
        let here : applies m p s M.rule ≡ true = grind (arith, nat_tests) in
        let before : (k : ℕ) (e : Rule G) → k < M.number → slice_get F.rules k ≡ Some e → applies m p s e ≡ false =
        λ k e l h. let a = S.apart k M.number M.rule e l h M.is in grind (arith, nat_tests) in
        let first = picks p s F.rules 0 M.number M.number M.rule (omega arith) M.is here before in
        rw (first, M.to, values_are (rule_outputs F M.number) s v M.writes)

    -- a step is a move by the rule that is picked
    pub step_moves : (machine_of m F).step p s ≡ Some (q, v) → Move m F p s v q
    unfolding machine_of
    step_moves e = go (some_before (pick m p s 0 F.rules) (λ x. Some (x.1.next, values_of m (rule_outputs F x.0) s)) (q, v) e)
      where
        by_rule : (r : Rule G) (j : ℕ) → slice_get F.rules j ≡ Some r → applies m p s r ≡ true → r.next ≡ q
            → values_of m (rule_outputs F j) s ≡ v → Move m F p s v q
        by_rule r j h a next out =
            let held : m.holds r.guard s ≡ true = grind arith in
            let each = All-weaker (Suits m r.guard) (λ t. (x : ℕ) × (m.value t s ≡ Some x)) (λ t k. k.1 s held) (rule_outputs F j) (S.output j r h) in
            record {
              number = j;
              rule = r;
              is = h;
              from = grind (arith, nat_tests);
              holds = held;
              writes = subst (Values m (rule_outputs F j) s) out (values_at (rule_outputs F j) s each);
              to = next;
            }

        go : (x : ℕ × Rule G) × (pick m p s 0 F.rules ≡ Some x)
            × (◌≡◌ {A = Option (ℕ × List ℕ)} (Some (x.1.next, values_of m (rule_outputs F x.0) s)) (Some (q, v))) → Move m F p s v q
        go (x, h, e) =
            let P = picked p s F.rules 0 x.0 x.1 h in
            let same : x.0 ≡ P.0 = omega (arith, P.1) in
            let to : ◌≡◌ {A = ℕ × List ℕ} (x.1.next, values_of m (rule_outputs F x.0) s) (q, v) = cc in
            let out : values_of m (rule_outputs F P.0) s ≡ v = ap (λ j. values_of m (rule_outputs F j) s) (sym same) ∙ ap (λ (y : ℕ × List ℕ). y.1) to in
            by_rule x.1 P.0 P.2 P.3 (ap (λ (y : ℕ × List ℕ). y.0) to) out
