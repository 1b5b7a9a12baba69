-- What the questions about guards and terms decide.
use Rattle.std.proofs.Common.{◌≡◌, ℕ, ◌<◌, true, false, not, ◌||◌, List, is_some, Some, None, Decides, Option, refl, arith}
use Rattle.std.specs.List.{AllByRecursion}
use Rattle.std.proofs.lemmas.Bool.{cases_Bool}
use Rattle.std.proofs.lemmas.Bool.Decides.{nat_tests}
use Rattle.std.proofs.ByRecursion.{Decides-by_and}
use Rattle.alphabet.specs.Model.{Model, SoundGuard}
use Rattle.alphabet.specs.Laws.{Lawful}
use Rattle.alphabet.specs.Questions.{gives, suits, constant_at, constant_of, both, shares}
use Rattle.alphabet.proofs.Bounded.{decides_every}
use Rattle.table.specs.declared.entries.Rule.{Rule}
use Rattle.table.specs.Check.{clash, clashes}

decides_gives : (o : Option ℕ) (c : ℕ) → Decides (gives o c) (o ≡ Some c)
decides_gives None c = (λ e. grind arith, λ e. grind arith)
decides_gives (Some x) c = (λ e. grind (arith, nat_tests), λ e. grind (arith, nat_tests))

some_value : (o : Option ℕ) → is_some o ≡ true → (x : ℕ) × (o ≡ Some x)
some_value None e = grind arith
some_value (Some x) e = (x, refl)

-- the guards of two rules of one state hold no number both
abbrev pub Apart : {G T : Type 0} → Model G T → Rule G → Rule G → Type 0
Apart m r e = e.state ≡ r.state → (s : ℕ) → both m e.guard r.guard s ≡ false

module _ {G T : Type 0} (m : Model G T) (laws : Lawful m) where
  -- the term gives one symbol at all symbols
  pub decides_constant : (t : T) → Decides (is_some (constant_of m t)) ((c : ℕ) × ((s : ℕ) → s < m.size → m.value t s ≡ Some c))
  decides_constant t = at (m.value t 0) refl
    where
      at : (o : Option ℕ) → m.value t 0 ≡ o → Decides (is_some (constant_at m t o)) ((c : ℕ) × ((s : ℕ) → s < m.size → m.value t s ≡ Some c))
      at None e = (λ z. grind arith, λ h. let v = h.1 0 laws.size_low in grind arith)
      at (Some c) e =
          let d = decides_every (λ s. gives (m.value t s) c) m.size in (
            λ z. (c, λ s below. (decides_gives (m.value t s) c).0 (d.0 (grind arith) s below)),
            λ h.
                let v = h.1 0 laws.size_low in
                let all = d.1 (λ s below. let w = h.1 s below in (decides_gives (m.value t s) c).1 (grind arith)) in
                grind arith,
          )

  module _ (g : G) (sound : SoundGuard m g) where
    -- the term has a value at each symbol of the guard
    pub decides_suits : (t : T) → Decides (suits m t g) ((s : ℕ) → m.holds g s ≡ true → (x : ℕ) × (m.value t s ≡ Some x))
    decides_suits t =
        let d = decides_every (λ s. not (m.holds g s) || is_some (m.value t s)) m.size in (
          λ e s held. let p = d.0 e s (laws.guard_inside g s sound held) in some_value (m.value t s) (grind arith),
          λ h. d.1 (λ s _. let v = h s in grind (arith, cases_Bool (m.holds g s))),
        )

    -- no number is held by another guard and by this one
    decides_apart : (h : G) → Decides (not (shares m h g)) ((s : ℕ) → both m h g s ≡ false)
    decides_apart h =
        let d = decides_every (λ s. not (both m h g s)) m.size in (
          λ e s. let p = d.0 (grind arith) s in let q = laws.guard_inside g s sound in grind (arith, cases_Bool (m.holds g s)),
          λ none. let p = d.1 (λ s _. let q = none s in grind arith) in grind arith,
        )

  decides_clash : (r e : Rule G) → SoundGuard m r.guard → Decides (not (clash m r e)) (Apart m r e)
  decides_clash r e sound = let d = decides_apart r.guard sound e.guard in (λ z same. d.0 (grind (arith, nat_tests)), λ a. grind (arith, nat_tests, d.1))

  pub decides_clashes : (r : Rule G) → SoundGuard m r.guard → (es : List (Rule G)) → Decides (not (clashes m r es)) (AllByRecursion (Apart m r) es)
  decides_clashes r sound =
      Decides-by_and (λ e. not (clash m r e)) (Apart m r) (λ es. not (clashes m r es)) (λ e. decides_clash r e sound) refl (λ e es. grind arith)
