-- Tables line by line: the moves of a table are those of its lines, and a table made of lines has them.
use Rattle.std.proofs.Common.{◌≡◌, ℕ, zero, suc, ◌+◌, ◌<◌, Bool, true, false, cond, List, [], ◌∷◌, length, take, drop, Some, sym, refl, ap, ◌∙◌, subst, arith}
use Rattle.std.specs.List.{slice_get, AllByRecursion}
use Rattle.std.proofs.ByRecursion.{All-weaker}
use Rattle.std.proofs.lemmas.Bool.Decides.{nat_tests}
use Rattle.machine.specs.Machine.{and_then}
use Rattle.alphabet.specs.Model.{Model, SoundGuard, SoundTerm}
use Rattle.table.specs.declared.entries.Rule.{Rule}
use Rattle.table.specs.Table.{Table, stretch, rule_outputs, all_rule_outputs}
use Rattle.table.specs.Sound.{Sound, Suits}
use Rattle.table.proofs.Places.{all_from_at_each}
use Rattle.filter.specs.Machines.{values_of, applies, pick, machine_of}
use Rattle.join_laws.specs.Lists.{first, Alone}
use Rattle.join_laws.specs.Lines.{Line, line_of, lines_from, lines_of, fires, goes, move}
use Rattle.join_laws.proofs.Firsts.{alone_from_places}

-- how many outputs a rule has
abbrev pub width : {G : Type 0} → Rule G → ℕ
width r = r.outputs

-- the line at a place is the rule there with its stretch of the outputs
pub nth_lines : {G T : Type 0} (rs : List (Rule G)) (ts : List T) (i : ℕ) (l : Line G T) → slice_get (lines_from rs ts) i ≡ Some l
    → (r : Rule G) × (slice_get rs i ≡ Some r) × (l ≡ line_of r (stretch width rs i ts))
nth_lines [] ts i l e = absurd (grind arith)
nth_lines (r ∷ rs) ts zero l e = (r, refl, cc)
nth_lines (r ∷ rs) ts (suc i) l e = nth_lines rs (drop r.outputs ts) i l e

module _ {G T : Type 0} (m : Model G T) where
  -- a sound term with a value at s
  abbrev pub Valued : ℕ → T → Type 0
  Valued s t = SoundTerm m t × ((x : ℕ) × (m.value t s ≡ Some x))

  -- terms with values at every symbol of a guard
  abbrev pub Fits : G → List T → Type 0
  Fits g ts = (s : ℕ) → m.holds g s ≡ true → AllByRecursion (Valued s) ts

  -- lines that a sound table of n states may have
  pub record Good (n : ℕ) (ls : List (Line G T)) : Type 0 where
    pub from : AllByRecursion (λ (l : Line G T). l.state < n) ls
    pub to : AllByRecursion (λ (l : Line G T). l.next < n) ls
    pub guards : AllByRecursion (λ (l : Line G T). SoundGuard m l.guard) ls
    pub fits : AllByRecursion (λ (l : Line G T). Fits l.guard l.outputs) ls
    pub apart : (q s : ℕ) → Alone (fires m q s) ls

  -- the picked rule is the first line that fires
  pick_lines : (p s i : ℕ) (rs : List (Rule G)) (ts : List T) (f : ℕ → List T) → ((j : ℕ) → f (i + j) ≡ stretch width rs j ts)
      → and_then (pick m p s i rs) (λ x. Some (x.1.next, values_of m (f x.0) s)) ≡ move m (lines_from rs ts) p s
  pick_lines p s i [] ts f h = refl
  pick_lines p s i (r ∷ rs) ts f h = go (applies m p s r) (pick_lines p s (i + 1) rs (drop r.outputs ts) f later)
    where
      later : (j : ℕ) → f (i + 1 + j) ≡ stretch width rs j (drop r.outputs ts)
      later j = let e : i + 1 + j ≡ i + suc j = omega arith in ap f e ∙ h (suc j)

      here : f i ≡ take r.outputs ts
      here = let e : i ≡ i + 0 = omega arith in ap f e ∙ h 0

      go : (b : Bool) → and_then (pick m p s (i + 1) rs) (λ x. Some (x.1.next, values_of m (f x.0) s)) ≡ move m (lines_from rs (drop r.outputs ts)) p s
          → and_then (cond b (Some (i, r)) (pick m p s (i + 1) rs)) (λ x. Some (x.1.next, values_of m (f x.0) s))
          ≡ and_then (cond b (Some (line_of r (take r.outputs ts))) (first (fires m p s) (lines_from rs (drop r.outputs ts)))) (goes m s)
      go true ih = ap (λ l. Some (r.next, values_of m l s)) here
      go false ih = ih

  -- a table moves by its lines
  pub step_is : (F : Table G T) (p s : ℕ) → (machine_of m F).step p s ≡ move m (lines_of F) p s
  unfolding machine_of lines_of
  step_is F p s = pick_lines p s 0 F.rules (all_rule_outputs F) (rule_outputs F) (λ j. let e : 0 + j ≡ j = omega arith in ap (rule_outputs F) e)

  -- the values of terms that have them
  pub suits_valued : (g : G) (ts : List T) → AllByRecursion (Suits m g) ts → Fits g ts
  suits_valued g ts all s h = All-weaker (Suits m g) (Valued s) (λ t k. (k.0, k.1 s h)) ts all

  -- the lines of a sound table
  pub lines_good : (F : Table G T) → Sound m F → Good (length F.states) (lines_of F)
  unfolding lines_of
  lines_good F S = record {
    from = each (λ l. l.state < n) (λ i r e. S.from i r e);
    to = each (λ l. l.next < n) (λ i r e. S.to i r e);
    guards = each (λ l. SoundGuard m l.guard) (λ i r e. S.guard i r e);
    fits = each (λ l. Fits l.guard l.outputs) (λ i r e. suits_valued r.guard (rule_outputs F i) (S.output i r e));
    apart = λ q s. alone_from_places (fires m q s) ls (two q s);
  }
    where
      n : ℕ
      n = length F.states

      ls : List (Line G T)
      ls = lines_from F.rules (all_rule_outputs F)

      each : (P : Line G T → Type 0) → ((i : ℕ) (r : Rule G) → slice_get F.rules i ≡ Some r → P (line_of r (rule_outputs F i))) → AllByRecursion P ls
      each P h = all_from_at_each P ls (λ i l e. found i l (nth_lines F.rules (all_rule_outputs F) i l e))
        where
          found : (i : ℕ) (l : Line G T) → (r : Rule G) × (slice_get F.rules i ≡ Some r) × (l ≡ line_of r (rule_outputs F i)) → P l
          found i l (r, a, b) = subst P (sym b) (h i r a)

      two : (q s i j : ℕ) (x y : Line G T) → i < j → slice_get ls i ≡ Some x → slice_get ls j ≡ Some y → fires m q s x ≡ true → fires m q s y ≡ true → ⊥
      two q s i j x y l e f t u = both (nth_lines F.rules (all_rule_outputs F) i x e) (nth_lines F.rules (all_rule_outputs F) j y f)
        where
          both : (r : Rule G) × (slice_get F.rules i ≡ Some r) × (x ≡ line_of r (rule_outputs F i)) → (r : Rule G) × (slice_get F.rules j ≡ Some r) × (y ≡ line_of r (rule_outputs F j)) → ⊥
          both (r, a, b) (r', a', b') =
              let k = S.apart i j r' r l a a' in
              let t' = rw b at t in
              let u' = rw b' at u in
              let same : r.state ≡ r'.state = grind (arith, nat_tests) in
              let z = k same s in grind (arith, nat_tests)
