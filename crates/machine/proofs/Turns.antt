-- What a search keeps true from turn to turn, and what it may answer at the end.
use Rattle.std.proofs.Common.{◌≡◌, ℕ, zero, suc, ◌+◌, ◌<◌, ◌≤◌, ◌⊎◌, List, [], ◌∷◌, ◌++◌, length, get_or, Some, None, refl, ap, ◌∙◌, inl, inr, arith, length-append}
use native.Mathlib.Decide.{dec_lt}
use Rattle.std.proofs.lemmas.List.{get_or_append_left, get_or_push}
use Rattle.machine.specs.Machine.{Machine, transduced, Distinguishes}
use Rattle.machine.specs.Shortlex.{Earlier}
use Rattle.machine.specs.Covered.{Covered}
use Rattle.machine.specs.Compared.{Told}
use Rattle.machine.specs.Explored.{In, Rising, Ready, Partway}
use Rattle.machine.proofs.Orders.{earlier_trans, earlier_append, earlier_symbol}
use Rattle.machine.specs.Texts.{texts}
use Rattle.machine.proofs.Explores.{explored_same}
use Rattle.machine.proofs.Texts.{texts_length, texts_push}

module _ (V : List (List ℕ)) (x : List ℕ) where
  -- the texts that were in the list stand where they stood
  at_old : (i : ℕ) → i < length V → get_or (V ++ (x ∷ [])) i [] ≡ get_or V i []
  at_old i h = get_or_append_left V (x ∷ []) [] i h

  -- what holds of the texts of the list and of one more holds of the list with it
  each_push : (P : List ℕ → Type 0) → ((i : ℕ) → i < length V → P (get_or V i [])) → P x
      → (i : ℕ) → i < length (V ++ (x ∷ [])) → P (get_or (V ++ (x ∷ [])) i [])
  each_push P old new i h =
      elim (dec_lt i (length V)) [
        | yes l ↦ rw (at_old i l) (old i l)
        | no n ↦ rw (get_or_push V x [] i (let l = length-append V (x ∷ []) in omega arith)) new
      ]

  -- a later text behind a rising list
  rising_push : Rising V → ((i : ℕ) → i < length V → Earlier (get_or V i []) x) → Rising (V ++ (x ∷ []))
  rising_push rising later i j h l =
      elim (dec_lt j (length V)) [
        | yes k ↦ rw (at_old i (omega arith), at_old j k) (rising i j h k)
        | no n ↦
            let e : length V ≡ j = let m = length-append V (x ∷ []) in omega arith in
            rw (at_old i (omega arith), get_or_push V x [] j e) (later i (omega arith))
      ]

  -- what is in the list is in the longer one
  in_push : (y : List ℕ) → In V y → In (V ++ (x ∷ [])) y
  in_push y (i, h, f) = (i, simp length-append (omega arith), at_old i h ∙ f)

  -- and what is in the list or covered
  either_push : (a b : Machine) (y : List ℕ) → In V y ⊎ Covered a b y → In (V ++ (x ∷ [])) y ⊎ Covered a b y
  either_push a b y (inl h) = inl (in_push y h)
  either_push a b y (inr c) = inr c

-- before the first text
pub ready_start : (a b : Machine) → Ready a b ([] ∷ []) 0
ready_start a b = record {
  explored = record {
    some = omega arith;
    start = refl;
    rising = λ i j h l. absurd (omega arith);
    same = λ i h. absurd (omega arith);
    next = λ i h. absurd (omega arith);
  };
  last = λ h. first;
}
  where
    -- the empty text is earlier than any other
    first : (i : ℕ) → i < 1 → Earlier (get_or ([] ∷ []) i []) (0 ∷ [])
    first zero h = inl (omega arith)
    first (suc i) h = absurd (omega arith)

module _ (a b : Machine) (V : List (List ℕ)) (k : ℕ) (R : Ready a b V k) where
  -- no text is left: the machines are equivalent
  pub ready_done : length V ≤ k → Told a b None
  ready_done h u = explored_same a b V k R.explored u (λ i l m. absurd (omega arith))

  -- text k distinguishes: nothing earlier does
  pub ready_found : k < length V → Distinguishes a b (get_or V k []) → Told a b (Some (get_or V k []))
  ready_found h d = (d, λ y l. explored_same a b V k R.explored y (later y l))
    where
      -- what is earlier than text k is earlier than those behind it
      later : (y : List ℕ) → Earlier y (get_or V k []) → (i : ℕ) → k ≤ i → i < length V → Earlier y (get_or V i [])
      later y l i m n =
          elim (dec_lt k i) [
            | yes o ↦ earlier_trans y (get_or V k []) (get_or V i []) l (R.explored.rising k i o n)
            | no o ↦ let e : k ≡ i = omega arith in rw e at l
          ]

  -- text k does not distinguish: its symbols are next
  pub ready_agreed : k < length V → transduced a (get_or V k []) ≡ transduced b (get_or V k []) → Partway a b V k 0
  ready_agreed h same = record {
    explored = R.explored;
    within = h;
    agrees = same;
    here = λ r l. absurd (omega arith);
    last = R.last h;
  }

module _ (a b : Machine) (V : List (List ℕ)) (k s : ℕ) (W : Partway a b V k s) where
  -- symbols whose extensions are covered are left out
  pub partway_skipped : (r : ℕ) → s ≤ r → ((c : ℕ) → s ≤ c → c < r → Covered a b (get_or V k [] ++ (c ∷ []))) → Partway a b V k r
  partway_skipped r h covered = record {
    explored = W.explored;
    within = W.within;
    agrees = W.agrees;
    here = λ c l. elim (dec_lt c s) [ yes m ↦ W.here c m | no m ↦ inr (covered c (omega arith) l) ];
    last = λ i l.
        elim (dec_lt s r) [
          | yes m ↦ earlier_trans (get_or V i []) (get_or V k [] ++ (s ∷ [])) (get_or V k [] ++ (r ∷ [])) (W.last i l) (earlier_symbol (get_or V k []) s r m)
          | no m ↦ let e : s ≡ r = omega arith in rw e at (W.last i l)
        ];
  }

  -- the extension by s is put behind the list
  pub partway_pushed : Partway a b (V ++ ((get_or V k [] ++ (s ∷ [])) ∷ [])) k (s + 1)
  partway_pushed = record {
    explored = record {
      some = simp length-append (omega arith);
      start = at_old V x 0 W.explored.some ∙ W.explored.start;
      rising = rising_push V x W.explored.rising W.last;
      same = λ i h. rw (old i (omega arith)) (W.explored.same i h);
      next = λ i h r. rw (old i (omega arith)) (either_push V x a b (get_or V i [] ++ (r ∷ [])) (W.explored.next i h r));
    };
    within = simp length-append (omega arith);
    agrees = rw (old k W.within) W.agrees;
    here = λ r h. rw (old k W.within) (there r h);
    last = λ i h. rw (old k W.within) (each_push V x (λ y. Earlier y (get_or V k [] ++ ((s + 1) ∷ []))) before (earlier_symbol (get_or V k []) s (s + 1) (omega arith)) i h);
  }
    where
      -- the new text
      x : List ℕ
      x = get_or V k [] ++ (s ∷ [])

      -- the others stand where they stood
      old : (i : ℕ) → i < length V → get_or (V ++ (x ∷ [])) i [] ≡ get_or V i []
      old i h = at_old V x i h

      -- the symbols below s, and s itself
      there : (r : ℕ) → r < s + 1 → In (V ++ (x ∷ [])) (get_or V k [] ++ (r ∷ [])) ⊎ Covered a b (get_or V k [] ++ (r ∷ []))
      there r h =
          elim (dec_lt r s) [
            | yes l ↦ either_push V x a b (get_or V k [] ++ (r ∷ [])) (W.here r l)
            | no l ↦
                let e : s ≡ r = omega arith in
                inl (length V, simp length-append (omega arith), get_or_push V x [] (length V) refl ∙ ap (λ c. get_or V k [] ++ (c ∷ [])) e)
          ]

      -- the texts that were there are earlier than the next extension
      before : (i : ℕ) → i < length V → Earlier (get_or V i []) (get_or V k [] ++ ((s + 1) ∷ []))
      before i h = earlier_trans (get_or V i []) x (get_or V k [] ++ ((s + 1) ∷ [])) (W.last i h) (earlier_symbol (get_or V k []) s (s + 1) (omega arith))

  -- every symbol from s on is covered: text k is done
  pub partway_turned : ((r : ℕ) → s ≤ r → Covered a b (get_or V k [] ++ (r ∷ []))) → Ready a b V (k + 1)
  partway_turned beyond = record {
    explored = record {
      some = W.explored.some;
      start = W.explored.start;
      rising = W.explored.rising;
      same = λ i h. elim (dec_lt i k) [ yes l ↦ W.explored.same i l | no l ↦ let e : i ≡ k = omega arith in rw e W.agrees ];
      next = λ i h. elim (dec_lt i k) [ yes l ↦ W.explored.next i l | no l ↦ let e : i ≡ k = omega arith in rw e all ];
    };
    last = λ h i l.
        earlier_trans (get_or V i []) (get_or V k [] ++ (s ∷ [])) (get_or V (k + 1) [] ++ (0 ∷ [])) (W.last i l)
        (earlier_append (get_or V k []) (get_or V (k + 1) []) (s ∷ []) (0 ∷ []) refl (W.explored.rising k (k + 1) (omega arith) h));
  }
    where
      -- every symbol is done
      all : (r : ℕ) → In V (get_or V k [] ++ (r ∷ [])) ⊎ Covered a b (get_or V k [] ++ (r ∷ []))
      all r = elim (dec_lt r s) [ yes l ↦ W.here r l | no l ↦ inr (beyond r (omega arith)) ]

-- the extension by s is kept as a node
pub partway_grown : (a b : Machine) (ns : List (ℕ × ℕ)) (k s : ℕ) → Partway a b (texts ns) k s
    → Partway a b (texts (ns ++ ((k, s) ∷ []))) k (s + 1)
partway_grown a b ns k s W =
    let l = texts_length ns in rw (texts_push ns (k, s) (omega arith)) (partway_pushed a b (texts ns) k s W)
