-- The ways through a sound filter: the first that holds a symbol is the filter's run there, no two hold the same symbol,
-- and what they write has values where they hold.
use Rattle.std.proofs.Common.{◌≡◌, ℕ, ◌<◌, Bool, true, false, cond, ◌&&◌, eqb, List, [], ◌∷◌, ◌++◌, map, Some, None, Option, sym, refl, ap, ◌∙◌, append_assoc, arith}
use Rattle.std.specs.List.{AllByRecursion}
use Rattle.std.specs.Option.{option_to_list}
use Rattle.std.proofs.ByRecursion.{All-weaker, All-append, All-map}
use Rattle.machine.specs.Machine.{Machine, and_then, moved, run}
use Rattle.alphabet.specs.Model.{Model, SoundGuard, SoundTerm}
use Rattle.alphabet.specs.Questions.{lies}
use Rattle.alphabet.specs.Laws.{Lawful}
use Rattle.filter.specs.Machines.{values_of}
use Rattle.join_laws.specs.Lists.{first, Alone, gathered, on_some}
use Rattle.join_laws.specs.Lines.{Line, fires, goes, move}
use Rattle.join_laws.specs.Ways.{Way, followed_by, fronted, ways, hits, takes, taken}
use Rattle.join_laws.proofs.Firsts.{mapped, first_map, first_passes, first_all, first_gathered, alone_gathered, alone_map, alone_never, all_gathered}
use Rattle.join_laws.proofs.Lines.{Valued, Fits, Good}

pub gathered_none : {X Y : Type 0} (q : Y → Bool) (f : X → List Y) (xs : List X) → AllByRecursion (λ x. first q (f x) ≡ None) xs → first q (gathered f xs) ≡ None
gathered_none q f [] h = refl
gathered_none {Y = Y} q f (x ∷ xs) h = first_append_none (f x) h.0 (gathered_none q f xs h.1)
  where
    first_append_none : (ys : List Y) → first q ys ≡ None → first q (gathered f xs) ≡ None → first q (ys ++ gathered f xs) ≡ None
    first_append_none [] e k = k
    first_append_none (y ∷ ys) e k = let ih = first_append_none ys in grind arith

module _ {G T : Type 0} (m : Model G T) where
  pub values_append : (xs ys : List T) (s : ℕ) → values_of m (xs ++ ys) s ≡ values_of m xs s ++ values_of m ys s
  values_append [] ys s = refl
  values_append (t ∷ xs) ys s =
      ap (λ l. option_to_list (m.value t s) ++ l) (values_append xs ys s) ∙ sym (append_assoc (option_to_list (m.value t s)) (values_of m xs s) (values_of m ys s))

  -- the values of a way that took t first
  pub taken_fronted : (t : T) (us : List T) (s : ℕ) (v : List ℕ) (W : List (Way G T ℕ)) → values_of m (followed_by m t us) s ≡ v
      → taken m (map (fronted m t us) W) s ≡ moved v (taken m W s)
  taken_fronted t us s v W e = ap (λ o. and_then o (takes m s)) (first_map (hits m s) (fronted m t us) W) ∙ go (first (hits m s) W)
    where
      go : (o : Option (Way G T ℕ)) → and_then (mapped (fronted m t us) o) (takes m s) ≡ moved v (and_then o (takes m s))
      go None = refl
      go (Some w) = ap (λ l. Some (w.to, l)) (values_append (followed_by m t us) w.outputs s ∙ ap (λ l. l ++ values_of m w.outputs s) e)

  module _ (law : Lawful m) where
    -- a term followed by others has their values at its own
    module _ (t : T) (s x : ℕ) (sound : SoundTerm m t) (is : m.value t s ≡ Some x) where
      pub followed_values : (us : List T) → AllByRecursion (Valued m x) us → values_of m (followed_by m t us) s ≡ values_of m us x
      followed_values [] all = refl
      followed_values (u ∷ us) ((su, (y, e)), all) = go (m.followed t u) refl (followed_values us all)
        where
          go : (o : Option T) → m.followed t u ≡ o → values_of m (followed_by m t us) s ≡ values_of m us x
              → values_of m (option_to_list o ++ followed_by m t us) s ≡ option_to_list (m.value u x) ++ values_of m us x
          go None f ih = let k = law.followed_none t u s x sound su f is in absurd (grind arith)
          go (Some w) f ih = let k = law.followed_value t u w s x y sound su f is e in rw (k, e, ih)

      pub followed_valued : (us : List T) → AllByRecursion (Valued m x) us → AllByRecursion (Valued m s) (followed_by m t us)
      followed_valued [] all = tt
      followed_valued (u ∷ us) ((su, (y, e)), all) = go (m.followed t u) refl (followed_valued us all)
        where
          go : (o : Option T) → m.followed t u ≡ o → AllByRecursion (Valued m s) (followed_by m t us) → AllByRecursion (Valued m s) (option_to_list o ++ followed_by m t us)
          go None f ih = ih
          go (Some w) f ih = ((law.followed_sound t u w sound su f, (y, law.followed_value t u w s x y sound su f is e)), ih)

    module _ (n : ℕ) (L : List (Line G T)) (good : Good m n L) where
      -- the ways that go on by one line
      abbrev pub by : List T → T → ℕ → G → Line G T → List (Way G T ℕ)
      by ts t q g l = cond (eqb l.state q) (on_some (m.narrowed g t l.guard) (λ h. map (fronted m t l.outputs) (ways m L ts l.next h))) []

      -- the line is one of q, and s is in g with its value under t in the line's guard
      abbrev pub meets : T → ℕ → G → ℕ → Line G T → Bool
      meets t q g s l = eqb l.state q && (m.holds g s && lies (m.value t s) (m.holds l.guard))

      by_none : (ts : List T) (t : T) (q : ℕ) (g : G) (s : ℕ) → SoundGuard m g → SoundTerm m t
          → ((q' : ℕ) (g' : G) → SoundGuard m g' → m.holds g' s ≡ false → first (hits m s) (ways m L ts q' g') ≡ None)
          → (l : Line G T) → SoundGuard m l.guard → meets t q g s l ≡ false → first (hits m s) (by ts t q g l) ≡ None
      by_none ts t q g s sg st ih l sl no-meet = go (eqb l.state q) (m.narrowed g t l.guard) refl no-meet
        where
          go : (b : Bool) (o : Option G) → m.narrowed g t l.guard ≡ o → (b && (m.holds g s && lies (m.value t s) (m.holds l.guard))) ≡ false
              → first (hits m s) (cond b (on_some o (λ h. map (fronted m t l.outputs) (ways m L ts l.next h))) []) ≡ None
          go false o e f = refl
          go true None e f = refl
          go true (Some h) e f =
              first_map (hits m s) (fronted m t l.outputs) (ways m L ts l.next h)
              ∙ ap (mapped (fronted m t l.outputs)) (ih l.next h (law.narrowed_sound g l.guard h t sg st sl e) (law.narrowed_holds g l.guard h t s sg st sl e ∙ f))

      -- no way holds a symbol that the guard does not
      pub ways_outside : (ts : List T) (q : ℕ) (g : G) (s : ℕ) → SoundGuard m g → AllByRecursion (SoundTerm m) ts → m.holds g s ≡ false → first (hits m s) (ways m L ts q g) ≡ None
      unfolding ways
      ways_outside [] q g s sg all e = rw e
      ways_outside (t ∷ ts) q g s sg (st, all) e =
          gathered_none (hits m s) (by ts t q g) L
          (All-weaker (λ (l : Line G T). SoundGuard m l.guard) (λ l. first (hits m s) (by ts t q g l) ≡ None)
          (λ l sl. by_none ts t q g s sg st (λ q' g' k. ways_outside ts q' g' s k all) l sl (let z = e in grind arith)) L good.guards)

      others_none : (ts : List T) (t : T) (q : ℕ) (g : G) (s : ℕ) → SoundGuard m g → SoundTerm m t → AllByRecursion (SoundTerm m) ts
          → AllByRecursion (λ l. meets t q g s l ≡ false → first (hits m s) (by ts t q g l) ≡ None) L
      others_none ts t q g s sg st all =
          All-weaker (λ (l : Line G T). SoundGuard m l.guard) (λ l. meets t q g s l ≡ false → first (hits m s) (by ts t q g l) ≡ None)
          (λ l sl. by_none ts t q g s sg st (λ q' g' k. ways_outside ts q' g' s k all) l sl) L good.guards

      -- at most one way holds a symbol
      meets_alone : (t : T) (q : ℕ) (g : G) (s : ℕ) → Alone (meets t q g s) L
      meets_alone t q g s = go (m.holds g s) (m.value t s)
        where
          go : (b : Bool) (o : Option ℕ) → Alone (λ (l : Line G T). eqb l.state q && (b && lies o (m.holds l.guard))) L
          go false o = alone_never (λ (l : Line G T). eqb l.state q && false) (λ l. grind arith) L
          go true None = alone_never (λ (l : Line G T). eqb l.state q && false) (λ l. grind arith) L
          go true (Some c) = good.apart q c

      pub ways_apart : (ts : List T) (q : ℕ) (g : G) (s : ℕ) → SoundGuard m g → AllByRecursion (SoundTerm m) ts → Alone (hits m s) (ways m L ts q g)
      unfolding ways
      ways_apart [] q g s sg all = (λ _. refl, tt)
      ways_apart (t ∷ ts) q g s sg (st, all) =
          alone_gathered (meets t q g s) (hits m s) (by ts t q g) L (meets_alone t q g s) (others_none ts t q g s sg st all)
          (All-weaker (λ (l : Line G T). SoundGuard m l.guard) (λ l. Alone (hits m s) (by ts t q g l))
          (λ l sl. go l sl (eqb l.state q) (m.narrowed g t l.guard) refl (λ h k. ways_apart ts l.next h s k all)) L good.guards)
        where
          go : (l : Line G T) → SoundGuard m l.guard → (b : Bool) (o : Option G) → m.narrowed g t l.guard ≡ o
              → ((h : G) → SoundGuard m h → Alone (hits m s) (ways m L ts l.next h))
              → Alone (hits m s) (cond b (on_some o (λ h. map (fronted m t l.outputs) (ways m L ts l.next h))) [])
          go l sl false o e ih = tt
          go l sl true None e ih = tt
          go l sl true (Some h) e ih =
              alone_map (hits m s) (fronted m t l.outputs) (ways m L ts l.next h) (ih h (law.narrowed_sound g l.guard h t sg st sl e))

      -- the ways hold only symbols of the guard; they are sound, end in states, and have values where they hold
      abbrev pub Fitting : G → Way G T ℕ → Type 0
      Fitting g w = SoundGuard m w.guard × (w.to < n) × ((s : ℕ) → m.holds w.guard s ≡ true → (m.holds g s ≡ true) × AllByRecursion (Valued m s) w.outputs)

      -- what holds of every line
      pub lines_all : AllByRecursion (λ (l : Line G T). SoundGuard m l.guard × (l.next < n) × Fits m l.guard l.outputs) L
      lines_all = go L good.guards good.to good.fits
        where
          go : (ls : List (Line G T)) → AllByRecursion (λ (l : Line G T). SoundGuard m l.guard) ls → AllByRecursion (λ (l : Line G T). l.next < n) ls → AllByRecursion (λ (l : Line G T). Fits m l.guard l.outputs) ls
              → AllByRecursion (λ (l : Line G T). SoundGuard m l.guard × (l.next < n) × Fits m l.guard l.outputs) ls
          go [] a b c = tt
          go (l ∷ ls) a b c = ((a.0, b.0, c.0), go ls a.1 b.1 c.1)

      -- a symbol that narrowed guards hold
      narrowed_at : (g h : G) (t : T) (l : Line G T) (s : ℕ) → SoundGuard m g → SoundTerm m t → SoundGuard m l.guard → m.narrowed g t l.guard ≡ Some h → m.holds h s ≡ true
          → (c : ℕ) × (m.holds g s ≡ true) × (m.value t s ≡ Some c) × (m.holds l.guard c ≡ true)
      narrowed_at g h t l s sg st sl e k = go (m.value t s) refl (sym (law.narrowed_holds g l.guard h t s sg st sl e) ∙ k)
        where
          go : (o : Option ℕ) → m.value t s ≡ o → (m.holds g s && lies o (m.holds l.guard)) ≡ true → (c : ℕ) × (m.holds g s ≡ true) × (m.value t s ≡ Some c) × (m.holds l.guard c ≡ true)
          go None v z = absurd (grind arith)
          go (Some c) v z = (c, grind arith, v, grind arith)

      pub ways_fit : (ts : List T) (q : ℕ) (g : G) → SoundGuard m g → q < n → AllByRecursion (SoundTerm m) ts → Fits m g ts → AllByRecursion (Fitting g) (ways m L ts q g)
      unfolding ways
      ways_fit [] q g sg below sts fits = ((sg, below, λ s h. (h, tt)), tt)
      ways_fit (t ∷ ts) q g sg below (st, sts) fits =
          all_gathered (Fitting g) (by ts t q g) L
          (All-weaker (λ (l : Line G T). SoundGuard m l.guard × (l.next < n) × Fits m l.guard l.outputs) (λ l. AllByRecursion (Fitting g) (by ts t q g l))
          (λ l (sl, to, lf). go l sl lf (eqb l.state q) (m.narrowed g t l.guard) refl
          (λ h sh in-h. ways_fit ts l.next h sh to sts in-h)) L lines_all)
        where
          go : (l : Line G T) → SoundGuard m l.guard → Fits m l.guard l.outputs → (b : Bool) (o : Option G) → m.narrowed g t l.guard ≡ o
              → ((h : G) → SoundGuard m h → Fits m h ts → AllByRecursion (Fitting h) (ways m L ts l.next h))
              → AllByRecursion (Fitting g) (cond b (on_some o (λ h. map (fronted m t l.outputs) (ways m L ts l.next h))) [])
          go l sl lf false o e ih = tt
          go l sl lf true None e ih = tt
          go l sl lf true (Some h) e ih =
              All-map (Fitting g) (fronted m t l.outputs) (ways m L ts l.next h)
              (All-weaker (Fitting h) (λ w. Fitting g (fronted m t l.outputs w)) each (ways m L ts l.next h)
              (ih h (law.narrowed_sound g l.guard h t sg st sl e) (λ s k. rest s (narrowed_at g h t l s sg st sl e k))))
            where
              rest : (s : ℕ) → (c : ℕ) × (m.holds g s ≡ true) × (m.value t s ≡ Some c) × (m.holds l.guard c ≡ true) → AllByRecursion (Valued m s) ts
              rest s (c, a, b, d) = (fits s a).1

              each : (w : Way G T ℕ) → Fitting h w → Fitting g (fronted m t l.outputs w)
              each w (sw, ends, at) = (sw, ends, λ s k. here s k (at s k) (narrowed_at g h t l s sg st sl e (at s k).0))
                where
                  here : (s : ℕ) → m.holds w.guard s ≡ true → (m.holds h s ≡ true) × AllByRecursion (Valued m s) w.outputs
                      → (c : ℕ) × (m.holds g s ≡ true) × (m.value t s ≡ Some c) × (m.holds l.guard c ≡ true)
                      → (m.holds g s ≡ true) × AllByRecursion (Valued m s) (followed_by m t l.outputs ++ w.outputs)
                  here s k (_, all) (c, a, b, d) =
                      (a, All-append (Valued m s) (followed_by m t l.outputs) w.outputs (followed_valued t s c st b l.outputs (lf c d)) all)

      -- the first way that holds a symbol of the guard is the run over the values of the terms there
      module _ (M : Machine) (moves : (q s : ℕ) → M.step q s ≡ move m L q s) where
        pub ways_run_lem : (ts : List T) (q : ℕ) (g : G) (s : ℕ) → SoundGuard m g → m.holds g s ≡ true → AllByRecursion (Valued m s) ts
            → taken m (ways m L ts q g) s ≡ run M (values_of m ts s) q
        unfolding ways run
        ways_run_lem [] q g s sg e all = rw e
        ways_run_lem (t ∷ ts) q g s sg e ((st, (c, is)), all) =
            ap (λ o. and_then o (takes m s)) (first_gathered (fires m q c) (hits m s) (by ts t q g) L (good.apart q c) others)
            ∙ go (first (fires m q c) L) refl (λ q' h sh k. ways_run_lem ts q' h s sh k all)
            ∙ ap (λ o. and_then o (λ r. moved r.1 (run M (values_of m ts s) r.0))) (sym (moves q c))
            ∙ ap (λ o. run M (option_to_list o ++ values_of m ts s) q) (sym is)
          where
            sts : AllByRecursion (SoundTerm m) ts
            sts = All-weaker (Valued m s) (SoundTerm m) (λ u h. h.0) ts all

            others : AllByRecursion (λ l. fires m q c l ≡ false → first (hits m s) (by ts t q g l) ≡ None) L
            others =
                All-weaker (λ l. meets t q g s l ≡ false → first (hits m s) (by ts t q g l) ≡ None) (λ l. fires m q c l ≡ false → first (hits m s) (by ts t q g l) ≡ None)
                (λ l h f. h (rw (e, is) f)) L (others_none ts t q g s sg st sts)

            go : (o : Option (Line G T)) → first (fires m q c) L ≡ o
                → ((q' : ℕ) (h : G) → SoundGuard m h → m.holds h s ≡ true → taken m (ways m L ts q' h) s ≡ run M (values_of m ts s) q')
                → and_then (and_then o (λ l. first (hits m s) (by ts t q g l))) (takes m s)
                ≡ and_then (and_then o (goes m c)) (λ r. moved r.1 (run M (values_of m ts s) r.0))
            go None f ih = refl
            go (Some l) f ih = through (eqb l.state q) (m.narrowed g t l.guard) refl (first_passes (fires m q c) L l f)
              where
                sl : SoundGuard m l.guard
                sl = first_all (fires m q c) (λ (k : Line G T). SoundGuard m k.guard) L l good.guards f

                lf : Fits m l.guard l.outputs
                lf = first_all (fires m q c) (λ (k : Line G T). Fits m k.guard k.outputs) L l good.fits f

                through : (b : Bool) (o : Option G) → m.narrowed g t l.guard ≡ o → (b && m.holds l.guard c) ≡ true
                    → and_then (first (hits m s) (cond b (on_some o (λ h. map (fronted m t l.outputs) (ways m L ts l.next h))) [])) (takes m s)
                    ≡ moved (values_of m l.outputs c) (run M (values_of m ts s) l.next)
                through false o n k = absurd (grind arith)
                through true None n k = let z = rw (e, is) at (law.narrowed_none g l.guard t s sg st sl n) in absurd (grind arith)
                through true (Some h) n k =
                    let held = law.narrowed_holds g l.guard h t s sg st sl n ∙ rw (e, is) k in
                    taken_fronted t l.outputs s (values_of m l.outputs c) (ways m L ts l.next h) (followed_values t s c st is l.outputs (lf c k))
                    ∙ ap (moved (values_of m l.outputs c)) (ih l.next h (law.narrowed_sound g l.guard h t sg st sl n) held)
