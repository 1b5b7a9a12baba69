-- Where the rules of a side begin and cease to hold symbols.
use Rattle.std.proofs.Common.{◌≡◌, ℕ, ◌+◌, ◌<◌, ◌≤◌, Bool, true, false, not, ◌||◌, ◌⊎◌, List, [], ◌∷◌, ◌++◌, length, get_or, take, is_some, Some, None, Option, sym, refl, ap, ◌∙◌, inl, inr, arith}
use Rattle.std.specs.List.{slice_get}
use Rattle.std.proofs.lemmas.List.{take_more, take_all}
use Rattle.std.proofs.lemmas.Option.{slice_get-get_or, slice_get_past}
use Rattle.std.proofs.lemmas.Bool.{cases_Bool, cases_lt, both_ways, not_from_true, not_from_false}
use Rattle.std.proofs.lemmas.Bool.Decides.{nat_tests}
use Rattle.alphabet.specs.Model.{Model, SoundGuard}
use Rattle.alphabet.specs.Questions.{LeastFrom, LeastOutside}
use Rattle.table.specs.declared.entries.Rule.{Rule}
use Rattle.table.specs.Table.{Table}
use Rattle.table.specs.Sound.{Sound}
use Rattle.filter.specs.Machines.{applies}
use Rattle.classes.specs.Runs.{rule_at_lem, same_rule_of, lower_of, holds_any, changed}
use Rattle.classes.proofs.Picks.{picks, pick_more, Held, held_rule, rule_only}
use Rattle.classes.proofs.Least.{least_same, least_either}
use Rattle.classes.proofs.Rules.{same_rule_lem, rule_same}

-- one more rule is looked at
module _ {G T : Type 0} (m : Model G T) (p n : ℕ) (rs : List (Rule G)) (i : ℕ) (r : Rule G) (within : i < length rs) (read : r ≡ get_or rs i r) (a : Option ℕ)
    (least : LeastFrom (λ s. picks m p s (take i rs)) n a) where
  picks_step : (s : ℕ) (b : Bool) → applies m p s r ≡ b → (picks m p s (take i rs) || b) ≡ picks m p s (take (i + 1) rs)
  picks_step s b e =
      ap (λ x. picks m p s (take i rs) || x) (sym e)
      ∙ sym (ap (picks m p s) (take_more rs i r within) ∙ ap (λ (x : Rule G). picks m p s (take i rs ++ (x ∷ []))) (sym read) ∙ pick_more m p s 0 (take i rs) r)

  -- a rule of the state
  pub held_more : r.state ≡ p → (b : Option ℕ) → LeastFrom (m.holds r.guard) n b → LeastFrom (λ s. picks m p s (take (i + 1) rs)) n (lower_of a b)
  held_more own b h =
      least_same (λ s. picks m p s (take i rs) || m.holds r.guard s) (λ s. picks m p s (take (i + 1) rs))
      (λ s. picks_step s (m.holds r.guard s) (grind (arith, nat_tests))) n (lower_of a b)
      (least_either (λ s. picks m p s (take i rs)) (m.holds r.guard) n a b least h)

  -- a rule of another state
  pub held_other : (r.state ≡ p → ⊥) → LeastFrom (λ s. picks m p s (take (i + 1) rs)) n a
  held_other apart =
      least_same (λ s. picks m p s (take i rs)) (λ s. picks m p s (take (i + 1) rs))
      (λ s. let e = picks_step s false (grind (arith, nat_tests)) in grind (arith, cases_Bool)) n a least

-- all rules are looked at
pub held_all : {G T : Type 0} (m : Model G T) (F : Table G T) (l : Option ℕ) (p n : ℕ) → l ≡ Some p → (i : ℕ) → length F.rules ≤ i → (a : Option ℕ)
    → LeastFrom (λ s. picks m p s (take i F.rules)) n a → LeastFrom (holds_any (rule_at_lem m F l)) n a
held_all m F l p n alive i done a h =
    rw alive (least_same (λ s. picks m p s (take i F.rules)) (λ s. picks m p s F.rules) (λ s. ap (picks m p s) (take_all i F.rules done)) n a h)

-- the end of a rule
module _ {G T : Type 0} (m : Model G T) (F : Table G T) (l : Option ℕ) (c : ℕ) where
  -- a side without a rule has one as soon as some rule holds
  pub begins : None ≡ rule_at_lem m F l c → (o : Option ℕ) → LeastFrom (holds_any (rule_at_lem m F l)) c o → LeastFrom (changed (rule_at_lem m F l) c) c o
  begins e o h = least_same (holds_any (rule_at_lem m F l)) (changed (rule_at_lem m F l) c) (λ s. one (rule_at_lem m F l s) ∙ ap (λ x. not (same_rule_of (rule_at_lem m F l s) x)) e) c o h
    where
      one : (x : Option ℕ) → is_some x ≡ not (same_rule_of x None)
      one None = refl
      one (Some i) = refl

  module _ (S : Sound m F) (i : ℕ) (e : Some i ≡ rule_at_lem m F l c) where
    here : Held m F l c i
    here = held_rule m F l c i (sym e)

    -- the rule stands in the list
    pub end_within : i < length F.rules
    end_within = go (cases_lt i (length F.rules))
      where
        go : (i < length F.rules) ⊎ (length F.rules ≤ i) → i < length F.rules
        go (inl less) = less
        go (inr more) = let past = slice_get_past F.rules i more in grind (arith, here.is)

    module _ (r : Rule G) (read : r ≡ get_or F.rules i r) where
      is : slice_get F.rules i ≡ Some r
      is = slice_get-get_or F.rules i r end_within ∙ ap Some (sym read)

      same : here.rule ≡ r
      same = cc (here.is, is)

      pub end_sound : SoundGuard m r.guard
      end_sound = S.guard i r is

      -- the rule is the side's as long as it holds
      pub ends : (o : ℕ) → LeastOutside (m.holds r.guard) c o → LeastFrom (changed (rule_at_lem m F l) c) c (Some o)
      ends o h = (h.0, not_from_false (same_rule_of (rule_at_lem m F l o) (rule_at_lem m F l c)) (other (cases_Bool (same_rule_of (rule_at_lem m F l o) (rule_at_lem m F l c)))), still)
        where
          -- a side with this rule at the end would have it hold there
          there : rule_at_lem m F l o ≡ Some i → ⊥
          there k =
              let K = held_rule m F l o i k in
              let own : K.rule ≡ r = cc (K.is, is) in
              both_ways (m.holds r.guard o) h.1 (ap (λ (x : Rule G). m.holds x.guard o) (sym own) ∙ K.holds)

          other : (same_rule_of (rule_at_lem m F l o) (rule_at_lem m F l c) ≡ true) ⊎ (same_rule_of (rule_at_lem m F l o) (rule_at_lem m F l c) ≡ false) → same_rule_of (rule_at_lem m F l o) (rule_at_lem m F l c) ≡ false
          other (inl k) = absurd (there (same_rule_lem (rule_at_lem m F l o) (rule_at_lem m F l c) k ∙ sym e))
          other (inr k) = k

          still : (k : ℕ) → c ≤ k → k < o → changed (rule_at_lem m F l) c k ≡ false
          still k from below =
              let own : r.state ≡ here.p = ap (λ (x : Rule G). x.state) (sym same) ∙ here.state in
              let now : rule_at_lem m F l k ≡ Some i = rule_only m F S l here.p k i here.alive r is own (h.2 k from below) in
              not_from_true (same_rule_of (rule_at_lem m F l k) (rule_at_lem m F l c)) (rule_same (rule_at_lem m F l k) (rule_at_lem m F l c) (now ∙ e))
