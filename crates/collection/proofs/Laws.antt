-- The law of the collection, by induction over the history.
use Rattle.std.proofs.Common.{◌≡◌, ℕ, ◌+◌, ◌<◌, true, ◌⊎◌, List, [], ◌∷◌, Some, None, Ok, Option, sym, refl, ap, ◌∙◌, subst, inl, inr, arith}
use Rattle.std.proofs.ByRecursion.{All-weaker}
use Rattle.alphabet.specs.Model.{Model}
use Rattle.alphabet.specs.Laws.{Lawful}
use Rattle.table.specs.Table.{Table}
use Rattle.table.specs.Sound.{Sound}
use Rattle.table.proofs.Soundness.{checked_from_sound}
use Rattle.filter.specs.Meaning.{Equivalent}
use Rattle.holdings.specs.Memory.{Memory, holding, opened}
use Rattle.holdings.specs.Check.{checked_shelf}
use Rattle.holdings.specs.Append.{room_for, appended, Adds}
use Rattle.holdings.proofs.Appends.{adds}
use Rattle.collection.specs.Filing.{Answer, Held, Unreadable, NoFilter, ShortScratch, Double, Full, Lowest, NoHolding, Filing}
use Rattle.collection.specs.History.{Call, Does, Reached, opening, calling}
use Rattle.collection.specs.Law.{Right, Represented, Answered, Kept, Law, KeepsLaw}
use Rattle.holdings.proofs.Equivalences.{equivalent_refl, equivalent_sym, equivalent_trans}
use Rattle.holdings.proofs.ReadThrough.{readable_fits, readable_sound, opened_readable, appended_readable}

less_same_more : (i j : ℕ) → (i < j) ⊎ ((j < i) ⊎ (j ≡ i))
less_same_more i j = grind arith

below_or_last : (i n : ℕ) → i < n + 1 → (i < n) ⊎ (n ≡ i)
below_or_last i n within = grind arith

module _ {G T : Type 0} (m : Model G T) where
  -- no two holdings are equivalent
  abbrev NoDoubles : Memory G T → Type 0
  NoDoubles M = (i j : ℕ) → i < j → j < M.head.holdings → Equivalent m (holding M i) (holding M j) → ⊥

  -- among holdings without doubles, the one equivalent to a filter is the only one
  represented_at : (M : Memory G T) (F : Table G T) (i : ℕ) → NoDoubles M → i < M.head.holdings → Equivalent m F (holding M i) → Represented m M F
  represented_at M F i apart within e = record { place = i; within = within; equivalent = e; only = λ j below f. go j below f (less_same_more i j) }
    where
      between : (j k : ℕ) → Equivalent m F (holding M j) → Equivalent m F (holding M k) → Equivalent m (holding M j) (holding M k)
      between j k f g = equivalent_trans m (holding M j) F (holding M k) (equivalent_sym m F (holding M j) f) g

      go : (j : ℕ) → j < M.head.holdings → Equivalent m F (holding M j) → (i < j) ⊎ ((j < i) ⊎ (j ≡ i)) → j ≡ i
      go j below f (inl less) = absurd (apart i j less below (between i j e f))
      go j below f (inr (inl more)) = absurd (apart j i more within (between j i f e))
      go j below f (inr (inr same)) = same

  -- the holdings of one memory are those of another, in which there are no doubles
  record Stays (M after : Memory G T) : Type 0 where
    pub readable : checked_shelf m after ≡ Ok tt
    pub no_doubles : NoDoubles after
    pub within : (i : ℕ) → i < M.head.holdings → i < after.head.holdings
    pub same : (i : ℕ) → i < M.head.holdings → holding after i ≡ holding M i

  -- so a filter that is represented stays so
  represented_stays : (M after : Memory G T) (F : Table G T) → Stays M after → Represented m M F → Represented m after F
  represented_stays M after F S R =
      represented_at after F R.place S.no_doubles (S.within R.place R.within)
      (subst (Equivalent m F) (sym (S.same R.place R.within)) R.equivalent)

  unchanged_stays : (M : Memory G T) → checked_shelf m M ≡ Ok tt → NoDoubles M → Stays M M
  unchanged_stays M ok apart = record { readable = ok; no_doubles = apart; within = λ i l. l; same = λ i l. refl }

  -- one more holding, equivalent to none before
  module _ (laws : Lawful m) (M : Memory G T) (F : Table G T) (ok : checked_shelf m M ≡ Ok tt) (apart : NoDoubles M) where
    module _ (sound : Sound m F) (new : NoHolding M (Equivalent m F)) (room : room_for M F ≡ true) where
      more : Adds M F (appended M F)
      more = adds M F (readable_fits m M ok) room

      appended_apart : NoDoubles (appended M F)
      appended_apart i j less within e = go (below_or_last j M.head.holdings within)
        where
          first : Equivalent m (holding M i) (holding (appended M F) j)
          first = subst (λ H. Equivalent m H (holding (appended M F) j)) (more.kept i (omega arith)) e

          go : (j < M.head.holdings) ⊎ (M.head.holdings ≡ j) → ⊥
          go (inl l) = apart i j less l (subst (Equivalent m (holding M i)) (more.kept j l) first)
          go (inr same) =
              let last : holding (appended M F) j ≡ F = ap (holding (appended M F)) (sym same) ∙ more.last in
              new i (omega arith) (equivalent_sym m (holding M i) F (subst (Equivalent m (holding M i)) last first))

      appended_stays : Stays M (appended M F)
      appended_stays = record {
        readable = appended_readable m M F ok room (checked_from_sound m laws F sound);
        no_doubles = appended_apart;
        within = λ i l. omega arith;
        same = more.kept;
      }

      appended_represented : Represented m (appended M F) F
      appended_represented =
          represented_at (appended M F) F M.head.holdings appended_apart (omega arith)
          (subst (Equivalent m F) (sym more.last) (equivalent_refl m F))

  -- one call on a shelf that can be read
  module _ (laws : Lawful m) (c : Call G T) (D : Does m c) (ok : checked_shelf m c.before ≡ Ok tt) where
    -- with scratch enough it has the right answer
    answered : Answered m c
    answered F e enough = go c.answer refl (D.filing F ok e)
      where
        go : (r : Answer) → c.answer ≡ r → Filing m c.enough c.before F r c.after → Right m c F
        go (Held n) is (scratch, new, room, next, then) = record {
          refused = λ i l f. absurd (new i l f);
          named = λ k d. absurd (grind arith);
          held = λ _ _. is ∙ ap Held next;
          full = λ _ f. absurd (grind arith);
        }
        go Unreadable is f = absurd f
        go NoFilter is f = absurd f
        go (ShortScratch n) is (short, then) = absurd (enough short.place short.within short.here)
        go (Double n) is (scratch, low, then) = record {
          refused = λ i l f. (n, is);
          named = λ k d. subst (Lowest c.before (Equivalent m F)) (cc) low;
          held = λ none _. absurd (none low.place low.within low.here);
          full = λ none _. absurd (none low.place low.within low.here);
        }
        go Full is (scratch, new, room, then) = record {
          refused = λ i l f. absurd (new i l f);
          named = λ k d. absurd (grind arith);
          held = λ _ f. absurd (grind arith);
          full = λ _ _. is;
        }

    module _ (apart : NoDoubles c.before) where
      -- it keeps the holdings
      stays : Stays c.before c.after
      stays = filter c.filter refl
        where
          unchanged : c.after ≡ c.before → Stays c.before c.after
          unchanged e = subst (Stays c.before) (sym e) (unchanged_stays c.before ok apart)

          filed : (F : Table G T) → Sound m F → (r : Answer) → Filing m c.enough c.before F r c.after → Stays c.before c.after
          filed F sound (Held n) (scratch, new, room, next, then) =
              subst (Stays c.before) (sym then) (appended_stays laws c.before F ok apart sound new room)
          filed F sound Unreadable f = absurd f
          filed F sound NoFilter f = absurd f
          filed F sound (ShortScratch n) (short, then) = unchanged then
          filed F sound (Double n) (scratch, low, then) = unchanged then
          filed F sound Full (scratch, new, room, then) = unchanged then

          filter : (o : Option (Table G T)) → c.filter ≡ o → Stays c.before c.after
          filter None e = unchanged (D.no_filter ok e).1
          filter (Some F) e = filed F (D.sound F ok e) c.answer (D.filing F ok e)

      -- and its filter, held or refused as a double, is represented
      kept : Kept m c.after c
      kept F e n is = go is
        where
          told : (r : Answer) → c.answer ≡ r → Filing m c.enough c.before F r c.after
          told r is = subst (λ a. Filing m c.enough c.before F a c.after) is (D.filing F ok e)

          held : Filing m c.enough c.before F (Held n) c.after → Represented m c.after F
          held (scratch, new, room, next, then) =
              subst (λ M. Represented m M F) (sym then) (appended_represented laws c.before F ok apart (D.sound F ok e) new room)

          double : Filing m c.enough c.before F (Double n) c.after → Represented m c.after F
          double (scratch, low, then) =
              subst (λ M. Represented m M F) (sym then) (represented_at c.before F low.place apart low.within low.here)

          go : (c.answer ≡ Held n) ⊎ (c.answer ≡ Double n) → Represented m c.after F
          go (inl is) = held (told (Held n) is)
          go (inr is) = double (told (Double n) is)

  module _ (laws : Lawful m) where
    opened_law : (M : Memory G T) → checked_shelf m M ≡ Ok tt → M.head.holdings ≡ 0 → Law m [] M
    opened_law M ok none = record {
      readable = ok;
      sound = readable_sound m laws M ok;
      no_doubles = λ i j less within e. omega arith;
      answered = tt;
      represented = tt;
    }

    -- one more call keeps the law
    next_law : (h : List (Call G T)) (c : Call G T) → Law m h c.before → Does m c → Law m (c ∷ h) c.after
    next_law h c L D =
        let ok = L.readable in
        let apart = L.no_doubles in
        let S = stays laws c D ok apart in
        record {
          readable = S.readable;
          sound = readable_sound m laws c.after S.readable;
          no_doubles = S.no_doubles;
          answered = (answered laws c D ok, L.answered);
          represented = (
            kept laws c D ok apart,
            All-weaker (Kept m c.before) (Kept m c.after) (λ d k F e n is. represented_stays c.before c.after F S (k F e n is)) h L.represented,
          );
        }

    -- every history keeps the law
    pub law_holds_lem : (h : List (Call G T)) (M : Memory G T) → Reached m h M → Law m h M
    law_holds_lem h M (opening ledger states rules outputs) = opened_law (opened ledger states rules outputs) (opened_readable m ledger states rules outputs) refl
    law_holds_lem h M (calling c R D) = next_law _ c (law_holds_lem _ c.before R) D

    -- so a call that is answered as it must be keeps it
    pub law_after : (c : Call G T) → Does m c → KeepsLaw m c
    law_after c D h R = (calling c R D, next_law h c (law_holds_lem h c.before R) D)
