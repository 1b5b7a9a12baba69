-- The ways of a pair: the first that holds a symbol is the step of both filters, no two hold the same symbol, and what
-- they write has values where they hold.
use Rattle.std.proofs.Common.{◌≡◌, ℕ, ◌<◌, Bool, true, false, cond, ◌&&◌, eqb, List, [], map, length, Some, None, Option, sym, refl, ap, ◌∙◌, arith}
use Rattle.std.specs.List.{AllByRecursion}
use Rattle.std.proofs.ByRecursion.{All-weaker, All-map}
use Rattle.machine.specs.Machine.{and_then, run}
use Rattle.machine.specs.Composed.{beside, step_both}
use Rattle.alphabet.specs.Model.{Model, SoundGuard, SoundTerm}
use Rattle.alphabet.specs.Laws.{Lawful}
use Rattle.table.specs.Table.{Table}
use Rattle.table.specs.Sound.{Sound}
use Rattle.filter.specs.Machines.{values_of, machine_of}
use Rattle.join_laws.specs.Lists.{first, Alone}
use Rattle.join_laws.specs.Lines.{Line, lines_of, fires, goes}
use Rattle.join_laws.specs.Ways.{Way, ways, hits, takes, taken}
use Rattle.join_laws.specs.Pairs.{Pair}
use Rattle.join_laws.specs.Joined.{aimed, ways_at, targets_at}
use Rattle.join_laws.proofs.Firsts.{mapped, first_map, first_passes, first_all, first_gathered, alone_gathered, alone_map, all_gathered}
use Rattle.join_laws.proofs.Lines.{Valued, Fits, Good, lines_good, step_is}
use Rattle.join_laws.proofs.Ways.{Fitting, lines_all, ways_outside, ways_apart, ways_fit, ways_run_lem}

-- both parts of a pair are below bounds
abbrev pub Within : ℕ → ℕ → Pair → Type 0
Within a b x = (x.0 < a) × (x.1 < b)

module _ {G T : Type 0} (m : Model G T) (law : Lawful m) (F H : Table G T) (ok_f : Sound m F) (ok_h : Sound m H) where
  L : List (Line G T)
  L = lines_of F

  K : List (Line G T)
  K = lines_of H

  good_f : Good m (length F.states) (lines_of F)
  good_f = lines_good m F ok_f

  good_h : Good m (length H.states) (lines_of H)
  good_h = lines_good m H ok_h

  -- the ways by one line of the first filter
  abbrev pub from_line : Pair → Line G T → List (Way G T Pair)
  from_line x l = cond (eqb l.state x.0) (map (aimed l.next) (ways m (lines_of H) l.outputs x.1 l.guard)) []

  -- the outputs of a line are sound terms
  line_terms : (l : Line G T) → SoundGuard m l.guard → Fits m l.guard l.outputs → AllByRecursion (SoundTerm m) l.outputs
  line_terms l sl lf = go (law.guard_some l.guard sl)
    where
      go : (s : ℕ) × (m.holds l.guard s ≡ true) → AllByRecursion (SoundTerm m) l.outputs
      go (s, h) = All-weaker (Valued m s) (SoundTerm m) (λ t k. k.0) l.outputs (lf s h)

  abbrev pub GoodLine : Line G T → Type 0
  GoodLine l = SoundGuard m l.guard × (l.next < length F.states) × Fits m l.guard l.outputs

  first_lines : AllByRecursion GoodLine (lines_of F)
  first_lines = lines_all m law (length F.states) (lines_of F) good_f

  from_none : (x : Pair) (s : ℕ) (l : Line G T) → GoodLine l → fires m x.0 s l ≡ false → first (hits m s) (from_line x l) ≡ None
  from_none x s l (sl, to, lf) f = go (eqb l.state x.0) f
    where
      go : (b : Bool) → (b && m.holds l.guard s) ≡ false → first (hits m s) (cond b (map (aimed l.next) (ways m (lines_of H) l.outputs x.1 l.guard)) []) ≡ None
      go false e = refl
      go true e =
          first_map (hits m s) (aimed l.next) (ways m (lines_of H) l.outputs x.1 l.guard)
          ∙ ap (mapped (aimed l.next)) (ways_outside m law (length H.states) (lines_of H) good_h l.outputs x.1 l.guard s sl (line_terms l sl lf) e)

  others : (x : Pair) (s : ℕ) → AllByRecursion (λ l. fires m x.0 s l ≡ false → first (hits m s) (from_line x l) ≡ None) (lines_of F)
  others x s = All-weaker GoodLine (λ l. fires m x.0 s l ≡ false → first (hits m s) (from_line x l) ≡ None) (from_none x s) (lines_of F) first_lines

  -- a way aimed at a pair leads there and writes the same
  taken_aimed : (p s : ℕ) (W : List (Way G T ℕ)) → taken m (map (aimed p) W) s ≡ beside p (taken m W s)
  taken_aimed p s W = ap (λ o. and_then o (takes m s)) (first_map (hits m s) (aimed p) W) ∙ go (first (hits m s) W)
    where
      go : (o : Option (Way G T ℕ)) → and_then (mapped (aimed p) o) (takes m s) ≡ beside p (and_then o (takes m s))
      go None = refl
      go (Some w) = refl

  pub pair_step : (x : Pair) (s : ℕ) → taken m (ways_at m F H x) s ≡ step_both (machine_of m F) (machine_of m H) x s
  unfolding ways_at
  pair_step x s =
      ap (λ o. and_then o (takes m s)) (first_gathered (fires m x.0 s) (hits m s) (from_line x) (lines_of F) (good_f.apart x.0 s) (others x s))
      ∙ go (first (fires m x.0 s) (lines_of F)) refl
      ∙ ap (λ o. and_then o (λ r. beside r.0 (run (machine_of m H) r.1 x.1))) (sym (step_is m F x.0 s))
    where
      go : (o : Option (Line G T)) → first (fires m x.0 s) (lines_of F) ≡ o
          → and_then (and_then o (λ l. first (hits m s) (from_line x l))) (takes m s)
          ≡ and_then (and_then o (goes m s)) (λ r. beside r.0 (run (machine_of m H) r.1 x.1))
      go None e = refl
      go (Some l) e = through (eqb l.state x.0) (first_passes (fires m x.0 s) (lines_of F) l e) (first_all (fires m x.0 s) GoodLine (lines_of F) l first_lines e)
        where
          through : (b : Bool) → (b && m.holds l.guard s) ≡ true → GoodLine l
              → and_then (first (hits m s) (cond b (map (aimed l.next) (ways m (lines_of H) l.outputs x.1 l.guard)) [])) (takes m s)
              ≡ beside l.next (run (machine_of m H) (values_of m l.outputs s) x.1)
          through false k good = absurd (grind arith)
          through true k (sl, to, lf) =
              taken_aimed l.next s (ways m (lines_of H) l.outputs x.1 l.guard)
              ∙ ap (beside l.next) (ways_run_lem m law (length H.states) (lines_of H) good_h (machine_of m H) (step_is m H) l.outputs x.1 l.guard s sl k (lf s k))

  pub pair_apart : (x : Pair) (s : ℕ) → Alone (hits m s) (ways_at m F H x)
  unfolding ways_at
  pair_apart x s =
      alone_gathered (fires m x.0 s) (hits m s) (from_line x) (lines_of F) (good_f.apart x.0 s) (others x s)
      (All-weaker GoodLine (λ l. Alone (hits m s) (from_line x l)) (λ l good. go l good (eqb l.state x.0)) (lines_of F) first_lines)
    where
      go : (l : Line G T) → GoodLine l → (b : Bool) → Alone (hits m s) (cond b (map (aimed l.next) (ways m (lines_of H) l.outputs x.1 l.guard)) [])
      go l good false = tt
      go l (sl, to, lf) true =
          alone_map (hits m s) (aimed l.next) (ways m (lines_of H) l.outputs x.1 l.guard)
          (ways_apart m law (length H.states) (lines_of H) good_h l.outputs x.1 l.guard s sl (line_terms l sl lf))

  -- a way between pairs of states, sound, with values where it holds
  abbrev pub GoodWay : Way G T Pair → Type 0
  GoodWay w = SoundGuard m w.guard × Within (length F.states) (length H.states) w.to × Fits m w.guard w.outputs

  pub pair_fit : (x : Pair) → x.1 < length H.states → AllByRecursion GoodWay (ways_at m F H x)
  unfolding ways_at
  pair_fit x below = all_gathered GoodWay (from_line x) (lines_of F) (All-weaker GoodLine (λ l. AllByRecursion GoodWay (from_line x l)) (λ l good. go l good (eqb l.state x.0)) (lines_of F) first_lines)
    where
      go : (l : Line G T) → GoodLine l → (b : Bool) → AllByRecursion GoodWay (cond b (map (aimed l.next) (ways m (lines_of H) l.outputs x.1 l.guard)) [])
      go l good false = tt
      go l (sl, to, lf) true =
          All-map GoodWay (aimed l.next) (ways m (lines_of H) l.outputs x.1 l.guard)
          (All-weaker (Fitting m law (length H.states) (lines_of H) good_h l.guard) (λ w. GoodWay (aimed l.next w))
          (λ w (sw, ends, at). (sw, (to, ends), λ s k. (at s k).1)) (ways m (lines_of H) l.outputs x.1 l.guard)
          (ways_fit m law (length H.states) (lines_of H) good_h l.outputs x.1 l.guard sl below (line_terms l sl lf) lf))

  pub targets_within : (x : Pair) → Within (length F.states) (length H.states) x → AllByRecursion (Within (length F.states) (length H.states)) (targets_at m F H x)
  targets_within x w =
      All-map (Within (length F.states) (length H.states)) (λ (y : Way G T Pair). y.to) (ways_at m F H x)
      (All-weaker GoodWay (λ (y : Way G T Pair). Within (length F.states) (length H.states) y.to) (λ y good. good.1) (ways_at m F H x) (pair_fit x w.1))
