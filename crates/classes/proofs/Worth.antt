-- From the least symbol that is held, and the end of its run, to the least symbol that is worth trying.
use Rattle.std.proofs.Common.{◌≡◌, ℕ, ◌-◌, ◌<◌, ◌≤◌, true, false, not, ◌&&◌, leb, ◌⊎◌, is_some, Some, None, Option, sym, ap, ◌∙◌, inl, inr, arith}
use Rattle.std.proofs.lemmas.Bool.{cases_lt, cases_Bool, both_ways, and_parts, or_parts, and_from, and_left, and_right, or_from, le-leb, leb-true, not-false, not_from_true, not_from_false}
use Rattle.alphabet.specs.Questions.{LeastFrom}
use Rattle.classes.proofs.Rules.{same_rule_lem, rule_same, none_held}
use Rattle.classes.specs.Runs.{same_rule_of, holds_any, changed, thrice, held, over, worth}

-- one side
module _ (f : ℕ → Option ℕ) where
  pub record Thrice (s : ℕ) : Type 0 where
    pub third : 2 ≤ s
    pub one : f (s - 1) ≡ f s
    pub two : f (s - 2) ≡ f s

  pub thrice_says : (s : ℕ) → thrice f s ≡ true → Thrice s
  thrice_says s e =
      let p = and_parts (leb 2 s && same_rule_of (f (s - 1)) (f s)) (same_rule_of (f (s - 2)) (f s)) e in
      let q = and_parts (leb 2 s) (same_rule_of (f (s - 1)) (f s)) p.0 in
      record { third = leb-true 2 s q.0; one = same_rule_lem (f (s - 1)) (f s) q.1; two = same_rule_lem (f (s - 2)) (f s) p.1 }

  thrice_from : (s : ℕ) → Thrice s → thrice f s ≡ true
  thrice_from s t =
      let a = le-leb 2 s t.third in
      let b = rule_same (f (s - 1)) (f s) t.one in
      let d = rule_same (f (s - 2)) (f s) t.two in
      rw (a, b, d)

  -- behind two symbols with the rule of c, a run of that rule goes on
  pub thrice_on : (c : ℕ) → Thrice c → (s : ℕ) → c ≤ s → ((k : ℕ) → c ≤ k → k ≤ s → f k ≡ f c) → thrice f s ≡ true
  thrice_on c t s from run =
      let one : f (s - 1) ≡ f c = at (s - 1) (omega (arith, t.third)) (omega arith) in
      let two : f (s - 2) ≡ f c = at (s - 2) (omega (arith, t.third)) (omega arith) in
      let here = run s from (omega arith) in
      thrice_from s (record { third = omega (arith, t.third); one = one ∙ sym here; two = two ∙ sym here })
    where
      at : (k : ℕ) → c - 2 ≤ k → k ≤ s → f k ≡ f c
      at k low high = go (cases_lt k c)
        where
          go : (k < c) ⊎ (c ≤ k) → f k ≡ f c
          go (inr on) = run k on high
          go (inl before) = near (cases_lt k (c - 1))
            where
              near : (k < c - 1) ⊎ (c - 1 ≤ k) → f k ≡ f c
              near (inl far) = let e : k ≡ c - 2 = omega arith in ap f e ∙ t.two
              near (inr close) = let e : k ≡ c - 1 = omega arith in ap f e ∙ t.one

  -- a rule that has not changed
  pub unchanged : (c s : ℕ) → changed f c s ≡ false → f s ≡ f c
  unchanged c s e = same_rule_lem (f s) (f c) (not-false (same_rule_of (f s) (f c)) e)

-- two sides
module _ (f g : ℕ → Option ℕ) (n : ℕ) where
  unheld_worth : (s : ℕ) → held f g s ≡ false → worth f g s ≡ false
  unheld_worth s e = and_left (held f g s) (not (thrice f s && thrice g s)) e

  -- nothing is held
  pub worth_none : LeastFrom (held f g) n None → LeastFrom (worth f g) n None
  worth_none h s from = unheld_worth s (h s from)

  module _ (c : ℕ) (h : LeastFrom (held f g) n (Some c)) where
    -- the first that is held is not behind two others of its run
    pub worth_first : (thrice f c && thrice g c) ≡ false → LeastFrom (worth f g) n (Some c)
    worth_first e =
        let here : held f g c ≡ true = h.1 in
        (h.0, rw (here, e), λ s from below. unheld_worth s (h.2 s from below))

    module _ (t : (thrice f c && thrice g c) ≡ true) where
      -- what comes before c, and c with the rest of its run, is not worth trying
      passed : (s : ℕ) → n ≤ s → ((k : ℕ) → c ≤ k → k ≤ s → over f g c k ≡ false) → worth f g s ≡ false
      passed s from run = go (cases_lt s c)
        where
          go : (s < c) ⊎ (c ≤ s) → worth f g s ≡ false
          go (inl before) = unheld_worth s (h.2 s from before)
          go (inr on) =
              let p = and_parts (thrice f c) (thrice g c) t in
              let a = thrice_on f c (thrice_says f c p.0) s on (λ k low high. unchanged f c k (or_parts (changed f c k) (changed g c k) (run k low high)).0) in
              let b = thrice_on g c (thrice_says g c p.1) s on (λ k low high. unchanged g c k (or_parts (changed f c k) (changed g c k) (run k low high)).1) in
              and_right (held f g s) (not (thrice f s && thrice g s)) (not_from_true (thrice f s && thrice g s) (and_from (thrice f s) (thrice g s) a b))

      -- the run goes on for ever
      pub worth_endless : LeastFrom (over f g c) c None → LeastFrom (worth f g) n None
      worth_endless k s from = passed s from (λ j low high. k j low)

      module _ (e : ℕ) (k : LeastFrom (over f g c) c (Some e)) where
        behind : (s : ℕ) → n ≤ s → s < e → worth f g s ≡ false
        behind s from below = passed s from (λ j low high. k.2 j low (omega arith))

        -- at the end of the run a side has another rule
        ended : f e ≡ f c → g e ≡ g c → ⊥
        ended x y =
            let a = not_from_true (same_rule_of (f e) (f c)) (rule_same (f e) (f c) x) in
            let b = not_from_true (same_rule_of (g e) (g c)) (rule_same (g e) (g c) y) in
            both_ways (over f g c e) (or_from (changed f c e) (changed g c e) a b) k.1

        -- the first that is held from the end of the run on is the first of its own run
        module _ (d : ℕ) (l : LeastFrom (held f g) e (Some d)) where
          fresh : (thrice f d && thrice g d) ≡ true → ⊥
          fresh u = go (cases_lt e d) (cases_lt c e)
            where
              a : Thrice f d
              a = thrice_says f d (and_parts (thrice f d) (thrice g d) u).0

              b : Thrice g d
              b = thrice_says g d (and_parts (thrice f d) (thrice g d) u).1

              go : (e < d) ⊎ (d ≤ e) → (c < e) ⊎ (e ≤ c) → ⊥
              go (inl less) order =
                  let none = or_parts (holds_any f (d - 1)) (holds_any g (d - 1)) (l.2 (d - 1) (omega arith) (omega (arith, a.third))) in
                  let x : f d ≡ None = sym a.one ∙ none_held (f (d - 1)) none.0 in
                  let y : g d ≡ None = sym b.one ∙ none_held (g (d - 1)) none.1 in
                  both_ways (held f g d) (or_from (holds_any f d) (holds_any g d) (ap is_some x) (ap is_some y)) l.1
              go (inr at) (inl less) =
                  let here : d ≡ e = omega (arith, l.0) in
                  let same = or_parts (changed f c (e - 1)) (changed g c (e - 1)) (k.2 (e - 1) (omega arith) (omega arith)) in
                  let before : d - 1 ≡ e - 1 = omega arith in
                  ended
                  (ap f (sym here) ∙ sym a.one ∙ ap f before ∙ unchanged f c (e - 1) same.0)
                  (ap g (sym here) ∙ sym b.one ∙ ap g before ∙ unchanged g c (e - 1) same.1)
              go (inr at) (inr more) =
                  let here : e ≡ c = omega (arith, k.0) in
                  ended (ap f here) (ap g here)

        pub worth_beyond : (o : Option ℕ) → LeastFrom (held f g) e o → LeastFrom (worth f g) n o
        worth_beyond None l = λ s from. go s from (cases_lt s e)
          where
            go : (s : ℕ) → n ≤ s → (s < e) ⊎ (e ≤ s) → worth f g s ≡ false
            go s from (inl before) = behind s from before
            go s from (inr on) = unheld_worth s (l s on)
        worth_beyond (Some d) l = (omega (arith, h.0, k.0, l.0), and_from (held f g d) (not (thrice f d && thrice g d)) l.1 here, before)
          where
            here : not (thrice f d && thrice g d) ≡ true
            here = go (cases_Bool (thrice f d && thrice g d))
              where
                go : ((thrice f d && thrice g d) ≡ true) ⊎ ((thrice f d && thrice g d) ≡ false) → not (thrice f d && thrice g d) ≡ true
                go (inl u) = absurd (fresh d l u)
                go (inr u) = not_from_false (thrice f d && thrice g d) u

            before : (s : ℕ) → n ≤ s → s < d → worth f g s ≡ false
            before s from below = go (cases_lt s e)
              where
                go : (s < e) ⊎ (e ≤ s) → worth f g s ≡ false
                go (inl less) = behind s from less
                go (inr on) = unheld_worth s (l.2 s on below)
