-- The law of the collection, by induction over the history.
use Rattle.std.proofs.Common.{◌≡◌, ℕ, ◌+◌, ◌-◌, ◌<◌, ◌≤◌, true, ◌⊎◌, List, [], ◌∷◌, length, Ok, Err, Result, sym, refl, ap, ◌∙◌, subst, inl, inr, arith}
use Rattle.std.proofs.ByRecursion.{All-weaker}
use Rattle.alphabet.specs.Model.{Model}
use Rattle.alphabet.specs.Laws.{Lawful}
use Rattle.table.specs.Table.{Table}
use Rattle.table.specs.Sound.{Sound}
use Rattle.table.specs.Check.{checked}
use Rattle.table.proofs.Soundness.{checked_from_sound, sound_from_checked}
use Rattle.filter.specs.Meaning.{Equivalent}
use Rattle.answers.specs.declared.comparison.Comparison.{Comparison}
use Rattle.answers.specs.declared.fault.Fault.{Fault}
use Rattle.answers.specs.declared.fault.Fault.TheVariants.{Double}
use Rattle.equivalence.specs.Answers.{steps_for}
use Rattle.join_laws.specs.Theorems.{Limited}
use Rattle.join_laws.proofs.Joining.{joins as joining-laws}
use Rattle.holdings.specs.Memory.{Memory, holding, opened}
use Rattle.holdings.specs.Check.{checked_shelf}
use Rattle.holdings.specs.Append.{room_for, appended, Adds}
use Rattle.holdings.proofs.Appends.{adds}
use Rattle.shelf_law.specs.Holdings.{Has, numbered, EveryHolding, NoHolding, Lowest}
use Rattle.shelf_law.specs.Scratch.{Scratch, HeldBy, Enough}
use Rattle.shelf_law.specs.Placing.{Placing, short_scratch, double, full, held}
use Rattle.shelf_law.specs.Calls.{Request, Readable, joined_at, Does, unreadable, unsound, no_first, no_second, too_large, files, joins}
use Rattle.shelf_law.specs.Comparing as comparing
use Rattle.shelf_law.specs.Comparing.{Compared, Compares, Told, ToldApart}
use Rattle.shelf_law.specs.History.{Call, call_of, Reached, opening, calling}
use Rattle.shelf_law.specs.Law.{FilterOf, ScratchFor, Right, Represented, Kept, Law, KeepsLaw}
use Rattle.holdings.proofs.Equivalences.{equivalent_refl, equivalent_sym, equivalent_trans}
use Rattle.holdings.proofs.ReadThrough.{readable_fits, readable_sound, opened_readable, appended_readable}
use Rattle.shelf_law.proofs.Placings.{enough_long}
use Rattle.shelf_law.proofs.Limits.{sound_limited}

less_same_more : (i j : ℕ) → (i < j) ⊎ ((j < i) ⊎ (j ≡ i))
less_same_more i j = grind arith

below_or_last : (i n : ℕ) → i < n + 1 → (i < n) ⊎ (n ≡ i)
below_or_last i n within = grind arith

module _ {G T : Type 0} (m : Model G T) where
  -- no two holdings are equivalent
  abbrev NoDoubles : Memory G T → Type 0
  NoDoubles M = (i j : ℕ) → i < j → j < M.head.holdings → Equivalent m (holding M i) (holding M j) → ⊥

  -- among holdings without doubles, the one equivalent to a filter is the only one
  represented_at : (M : Memory G T) (F : Table G T) (i : ℕ) → NoDoubles M → i < M.head.holdings → Equivalent m F (holding M i) → Represented m M F
  represented_at M F i apart within e = record { place = i; within = within; equivalent = e; only = λ j below f. go j below f (less_same_more i j) }
    where
      between : (j k : ℕ) → Equivalent m F (holding M j) → Equivalent m F (holding M k) → Equivalent m (holding M j) (holding M k)
      between j k f g = equivalent_trans m (holding M j) F (holding M k) (equivalent_sym m F (holding M j) f) g

      go : (j : ℕ) → j < M.head.holdings → Equivalent m F (holding M j) → (i < j) ⊎ ((j < i) ⊎ (j ≡ i)) → j ≡ i
      go j below f (inl less) = absurd (apart i j less below (between i j e f))
      go j below f (inr (inl more)) = absurd (apart j i more within (between j i f e))
      go j below f (inr (inr same)) = same

  -- the holdings of one memory are those of another, in which there are no doubles
  record Stays (M after : Memory G T) : Type 0 where
    pub readable : checked_shelf m after ≡ Ok tt
    pub no_doubles : NoDoubles after
    pub within : (i : ℕ) → i < M.head.holdings → i < after.head.holdings
    pub same : (i : ℕ) → i < M.head.holdings → holding after i ≡ holding M i

  -- so a filter that is represented stays so
  represented_stays : (M after : Memory G T) (F : Table G T) → Stays M after → Represented m M F → Represented m after F
  represented_stays M after F S R =
      represented_at after F R.place S.no_doubles (S.within R.place R.within)
      (subst (Equivalent m F) (sym (S.same R.place R.within)) R.equivalent)

  unchanged_stays : (M : Memory G T) → checked_shelf m M ≡ Ok tt → NoDoubles M → Stays M M
  unchanged_stays M ok apart = record { readable = ok; no_doubles = apart; within = λ i l. l; same = λ i l. refl }

  -- one more holding, equivalent to none before
  module _ (laws : Lawful m) (M : Memory G T) (F : Table G T) (ok : checked_shelf m M ≡ Ok tt) (apart : NoDoubles M) where
    module _ (sound : Sound m F) (new : NoHolding M (Equivalent m F)) (room : room_for M F ≡ true) where
      more : Adds M F (appended M F)
      more = adds M F (readable_fits m M ok) room

      appended_apart : NoDoubles (appended M F)
      appended_apart i j less within e = go (below_or_last j M.head.holdings within)
        where
          first : Equivalent m (holding M i) (holding (appended M F) j)
          first = subst (λ H. Equivalent m H (holding (appended M F) j)) (more.kept i (omega arith)) e

          go : (j < M.head.holdings) ⊎ (M.head.holdings ≡ j) → ⊥
          go (inl l) = apart i j less l (subst (Equivalent m (holding M i)) (more.kept j l) first)
          go (inr same) =
              let last : holding (appended M F) j ≡ F = ap (holding (appended M F)) (sym same) ∙ more.last in
              new i (omega arith) (equivalent_sym m (holding M i) F (subst (Equivalent m (holding M i)) last first))

      appended_stays : Stays M (appended M F)
      appended_stays = record {
        readable = appended_readable m M F ok room (checked_from_sound m laws F sound);
        no_doubles = appended_apart;
        within = λ i l. omega arith;
        same = more.kept;
      }

      appended_represented : Represented m (appended M F) F
      appended_represented =
          represented_at (appended M F) F M.head.holdings appended_apart (omega arith)
          (subst (Equivalent m F) (sym more.last) (equivalent_refl m F))

  -- a sound filter put on a shelf that can be read
  module _ (laws : Lawful m) (S : Scratch) (M : Memory G T) (ok : Readable m M) where
    -- with scratch enough it has the right answer
    placing_right : (F : Table G T) → EveryHolding M (Enough m S F) → (r : Result ℕ Fault) (A : Memory G T) → Placing m S M F r A → Right m M F r A
    placing_right F enough r A (short_scratch n low) = absurd (enough_long m S M F enough low.place low.within low.here)
    placing_right F enough r A (double n e low) = record {
      refused = λ i l f. (n, refl);
      named = λ k d. let same : n ≡ k = cc in subst (Lowest M (Equivalent m F)) same low;
      held = λ none _. absurd (none low.place low.within low.here);
      full = λ none _. absurd (none low.place low.within low.here);
      stands = λ k d. absurd (grind arith);
    }
    placing_right F enough r A (full e new room) = record {
      refused = λ i l f. absurd (new i l f);
      named = λ k d. absurd (grind arith);
      held = λ _ f. absurd (grind arith);
      full = λ _ _. refl;
      stands = λ k d. absurd (grind arith);
    }
    placing_right F enough r A (held e new room) = record {
      refused = λ i l f. absurd (new i l f);
      named = λ k d. absurd (grind arith);
      held = λ _ _. refl;
      full = λ _ f. absurd (grind arith);
      stands = λ k d. let next : M.head.holdings + 1 ≡ k = cc in standing k next;
    }
      where
        more : Adds M F (appended M F)
        more = adds M F (readable_fits m M ok) room

        standing : (k : ℕ) → M.head.holdings + 1 ≡ k → Has (appended M F) k × (numbered (appended M F) k ≡ F)
        standing k next =
            let last : k - 1 ≡ M.head.holdings = omega arith in
            ((omega arith, omega arith), ap (holding (appended M F)) last ∙ more.last)

    module _ (apart : NoDoubles M) where
      -- it keeps the holdings
      placing_stays : (F : Table G T) → Sound m F → (r : Result ℕ Fault) (A : Memory G T) → Placing m S M F r A → Stays M A
      placing_stays F sound r A (short_scratch n low) = unchanged_stays M ok apart
      placing_stays F sound r A (double n e low) = unchanged_stays M ok apart
      placing_stays F sound r A (full e new room) = unchanged_stays M ok apart
      placing_stays F sound r A (held e new room) = appended_stays laws M F ok apart sound new room

      -- and the filter, held or refused as a double, is represented
      placing_kept : (F : Table G T) → Sound m F → (r : Result ℕ Fault) (A : Memory G T) → Placing m S M F r A → (n : ℕ) → (r ≡ Ok n) ⊎ (r ≡ Err (Double n)) → Represented m A F
      placing_kept F sound r A (short_scratch k low) n is = absurd (grind arith)
      placing_kept F sound r A (double k e low) n is = represented_at M F low.place apart low.within low.here
      placing_kept F sound r A (full e new room) n is = absurd (grind arith)
      placing_kept F sound r A (held e new room) n is = appended_represented laws M F ok apart sound new room

    -- the joined filter of two holdings is sound where it is within the limits
    pub joined_sound : (i j : ℕ) → Has M i → Has M j → Limited (joined_at m M i j) → Sound m (joined_at m M i j)
    joined_sound i j hi hj limited =
        (joining-laws m laws (numbered M i) (numbered M j) (readable_sound m laws M ok (i - 1) (omega arith)) (readable_sound m laws M ok (j - 1) (omega arith))).sound limited

    -- a shelf that can be read is not refused as unreadable
    readable_no_fault : (f : Fault) → checked_shelf m M ≡ Err f → ⊥
    readable_no_fault f e = grind (arith, ok, e)

    -- one call: with a sound filter and scratch enough for it, the right answer
    does_right : (q : Request G T) (r : Result ℕ Fault) (A : Memory G T) → Does m S M q r A → (F : Table G T) → FilterOf m M q F → Sound m F → ScratchFor m S M q F → Right m M F r A
    does_right q r A (unreadable q₁ f e) F is sound enough = absurd (readable_no_fault f e)
    does_right q r A (unsound D f o e) F is sound enough =
        let none : checked m D ≡ Ok tt = subst (λ X. checked m X ≡ Ok tt) is (checked_from_sound m laws F sound) in absurd (grind (arith, none, e))
    does_right q r A (no_first i j L o none) F is sound enough = absurd (none is.0)
    does_right q r A (no_second i j L o has none) F is sound enough = absurd (none is.1)
    does_right q r A (too_large i j L o hi hj over) F is sound enough =
        absurd (over (subst Limited is.2 (sound_limited m F sound)) (subst (HeldBy L) is.2 enough.1))
    does_right q r A (files D r₁ A₁ o e p) F is sound enough =
        subst (λ X. Right m M X r A) (sym is) (placing_right D (subst (λ X. EveryHolding M (Enough m S X)) is enough.0) r A p)
    does_right q r A (joins i j L r₁ A₁ o hi hj limited room p) F is sound enough =
        subst (λ X. Right m M X r A) (sym is.2) (placing_right (joined_at m M i j) (subst (λ X. EveryHolding M (Enough m S X)) is.2 enough.0) r A p)

    module _ (apart : NoDoubles M) where
      -- it keeps the holdings
      does_stays : (q : Request G T) (r : Result ℕ Fault) (A : Memory G T) → Does m S M q r A → Stays M A
      does_stays q r A (unreadable q₁ f e) = unchanged_stays M ok apart
      does_stays q r A (unsound D f o e) = unchanged_stays M ok apart
      does_stays q r A (no_first i j L o none) = unchanged_stays M ok apart
      does_stays q r A (no_second i j L o has none) = unchanged_stays M ok apart
      does_stays q r A (too_large i j L o hi hj over) = unchanged_stays M ok apart
      does_stays q r A (files D r₁ A₁ o e p) = placing_stays apart D (sound_from_checked m laws D e) r A p
      does_stays q r A (joins i j L r₁ A₁ o hi hj limited room p) = placing_stays apart (joined_at m M i j) (joined_sound i j hi hj limited) r A p

      -- and its filter, held or refused as a double, is represented
      does_kept : (q : Request G T) (r : Result ℕ Fault) (A : Memory G T) → Does m S M q r A → (F : Table G T) → FilterOf m M q F → (n : ℕ) → (r ≡ Ok n) ⊎ (r ≡ Err (Double n)) → Represented m A F
      does_kept q r A (unreadable q₁ f e) F is n was = absurd (readable_no_fault f e)
      does_kept q r A (unsound D f o e) F is n was = absurd (grind arith)
      does_kept q r A (no_first i j L o none) F is n was = absurd (none is.0)
      does_kept q r A (no_second i j L o has none) F is n was = absurd (none is.1)
      does_kept q r A (too_large i j L o hi hj over) F is n was = absurd (grind arith)
      does_kept q r A (files D r₁ A₁ o e p) F is n was = subst (Represented m A) (sym is) (placing_kept apart D (sound_from_checked m laws D e) r A p n was)
      does_kept q r A (joins i j L r₁ A₁ o hi hj limited room p) F is n was =
          subst (Represented m A) (sym is.2) (placing_kept apart (joined_at m M i j) (joined_sound i j hi hj limited) r A p n was)

  -- comparing two different holdings tells them apart where there are no doubles
  module _ (M : Memory G T) (ok : Readable m M) (apart : NoDoubles M) where
    different_apart : (i j : ℕ) → Has M i → Has M j → (i ≡ j → ⊥) → Equivalent m (numbered M i) (numbered M j) → ⊥
    different_apart i j hi hj other same = go (less_same_more (i - 1) (j - 1))
      where
        go : (i - 1 < j - 1) ⊎ ((j - 1 < i - 1) ⊎ (j - 1 ≡ i - 1)) → ⊥
        go (inl less) = apart (i - 1) (j - 1) less (omega arith) same
        go (inr (inl more)) = apart (j - 1) (i - 1) more (omega arith) (equivalent_sym m (numbered M i) (numbered M j) same)
        go (inr (inr equal)) = other (omega arith)

    compared_told : (S : Scratch) (i j : ℕ) (w : List ℕ) (r : Result Comparison Fault) (after : List ℕ) → Compared m S (numbered M i) (numbered M j) j w r after
        → Has M i → Has M j → (i ≡ j → ⊥) → Enough m S (numbered M i) (numbered M j) → steps_for m (numbered M i) (numbered M j) ≤ length w → Told m M i j w r after
    compared_told S i j w r after (comparing.short_scratch short) hi hj other enough room = absurd (grind arith)
    compared_told S i j w r after (comparing.short_witness e short) hi hj other enough room = absurd (omega arith)
    compared_told S i j w r after (comparing.equivalent e l same) hi hj other enough room = absurd (different_apart i j hi hj other same)
    compared_told S i j w r after (comparing.distinguished e l text short earliest) hi hj other enough room = record { text = text; answer = refl; witness = refl; earliest = earliest }

    compares_told : ToldApart m M
    compares_told S i j w r after (comparing.unreadable f e) hi hj other enough room = absurd (grind (arith, ok, e))
    compares_told S i j w r after (comparing.no_first o none) hi hj other enough room = absurd (none hi)
    compares_told S i j w r after (comparing.no_second o has none) hi hj other enough room = absurd (none hj)
    compares_told S i j w r after (comparing.compared o has also r₁ after₁ p) hi hj other enough room = compared_told S i j w r after p hi hj other enough room

  module _ (laws : Lawful m) where
    opened_law : (M : Memory G T) → Readable m M → M.head.holdings ≡ 0 → Law m [] M
    opened_law M ok none = record {
      readable = ok;
      sound = readable_sound m laws M ok;
      no_doubles = λ i j less within e. omega arith;
      told_apart = compares_told M ok (λ i j less within e. omega arith);
      answered = tt;
      represented = tt;
    }

    -- one more call keeps the law
    next_law : (h : List (Call G T)) (c : Call G T) → Law m h c.before → Does m c.scratch c.before c.request c.answer c.after → Law m (c ∷ h) c.after
    next_law h c L D =
        let M = c.before in
        let ok = L.readable in
        let apart = L.no_doubles in
        let stays = does_stays laws c.scratch M ok apart c.request c.answer c.after D in
        record {
          readable = stays.readable;
          sound = readable_sound m laws c.after stays.readable;
          no_doubles = stays.no_doubles;
          told_apart = compares_told c.after stays.readable stays.no_doubles;
          answered = (does_right laws c.scratch M ok c.request c.answer c.after D, L.answered);
          represented = (
            does_kept laws c.scratch M ok apart c.request c.answer c.after D,
            All-weaker (Kept m M) (Kept m c.after) (λ d k F e n is. represented_stays M c.after F stays (k F e n is)) h L.represented,
          );
        }

    -- every history keeps the law
    pub law_holds_lem : (h : List (Call G T)) (M : Memory G T) → Reached m h M → Law m h M
    law_holds_lem h M (opening ledger states rules outputs) = opened_law (opened ledger states rules outputs) (opened_readable m ledger states rules outputs) refl
    law_holds_lem h M (calling c R D) = next_law _ c (law_holds_lem _ c.before R) D

    -- so a call that is answered as it must be keeps it
    pub law_after : (c : Call G T) → Does m c.scratch c.before c.request c.answer c.after → KeepsLaw m c
    law_after c D h R = (calling c R D, next_law h c (law_holds_lem h c.before R) D)

    -- and comparing two holdings of a shelf that a history led to tells them apart
    pub history_told : (M : Memory G T) (h : List (Call G T)) → Reached m h M → ToldApart m M
    history_told M h R = (law_holds_lem h M R).told_apart

    -- the same with the call taken apart
    pub law_of : {S : Scratch} {M : Memory G T} {q : Request G T} {r : Result ℕ Fault} {A : Memory G T} → Does m S M q r A → KeepsLaw m (call_of q S M r A)
    law_of {S} {M} {q} {r} {A} D = law_after (call_of q S M r A) D
