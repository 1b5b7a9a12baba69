-- The holding that a joining answers with is the composition of the two that were joined.
use Rattle.std.proofs.Common.{◌≡◌, ℕ, ◌+◌, ◌-◌, Bool, true, false, cond, ◌⊎◌, List, [], ◌∷◌, Ok, Err, Result, sym, refl, ap, ◌∙◌, subst, inl, inr, arith}
use Rattle.alphabet.specs.Model.{Model}
use Rattle.alphabet.specs.Laws.{Lawful}
use Rattle.table.specs.Table.{Table}
use Rattle.table.specs.Check.{Checked, checked}
use Rattle.table.specs.Results.{map_err}
use Rattle.filter.specs.Meaning.{Equivalent}
use Rattle.answers.specs.declared.fault.Fault.{Fault}
use Rattle.answers.specs.declared.fault.Fault.TheVariants.{Misfit, Unsound, Double}
use Rattle.join_laws.specs.Theorems.{Limited}
use Rattle.join_laws.proofs.Joining.{joins as joining-laws}
use Rattle.holdings.specs.declared.memory.Entry.{Entry}
use Rattle.holdings.specs.Memory.{Memory, in_use, fits, holding}
use Rattle.holdings.specs.Check.{next, check_from, checked_shelf}
use Rattle.holdings.specs.Append.{appended}
use Rattle.holdings.proofs.Appends.{adds}
use Rattle.shelf_law.specs.Holdings.{Has, numbered}
use Rattle.shelf_law.specs.Scratch.{Scratch, Lists}
use Rattle.shelf_law.specs.Placing.{Placing, short_scratch, double, full, held}
use Rattle.shelf_law.specs.Calls.{Request, Joining, Readable, joined_at, Does, unreadable, unsound, no_first, no_second, too_large, files, joins}
use Rattle.shelf_law.specs.Composition.{Composition, JoinedUnder}
use Rattle.holdings.proofs.ReadThrough.{readable_fits, readable_sound}

module _ {G T : Type 0} (m : Model G T) (M : Memory G T) where
  -- the check of a shelf finds no doubles
  first_no_double : (k n : ℕ) (r : Checked) (later : Result Unit Fault) → (later ≡ Err (Double n) → ⊥) → next (map_err (Unsound k) r) later ≡ Err (Double n) → ⊥
  first_no_double k n (Ok x) later none e = none e
  first_no_double k n (Err f) later none e = grind arith

  check_no_double : (n i : ℕ) (es : List Entry) → check_from m M i es ≡ Err (Double n) → ⊥
  check_no_double n i [] e = grind arith
  check_no_double n i (x ∷ es) e = first_no_double (i + 1) n (checked m (holding M i)) (check_from m M (i + 1) es) (check_no_double n (i + 1) es) e

  shelf_no_double : (n : ℕ) → checked_shelf m M ≡ Err (Double n) → ⊥
  shelf_no_double n e = go (fits M) e
    where
      go : (b : Bool) → cond b (check_from m M 0 (in_use M)) (Err Misfit) ≡ Err (Double n) → ⊥
      go true e = check_no_double n 0 (in_use M) e
      go false e = grind arith

  -- what is equivalent to a composition is one
  equivalent_composes : (F H J K : Table G T) → Composition m F H J → Equivalent m J K → Composition m F H K
  equivalent_composes F H J K C e = record { splits = λ u v w. C.splits u v ((e u v).1 w); joins = λ u t v x y. (e u v).0 (C.joins u t v x y) }

  module _ (laws : Lawful m) (S : Scratch) where
    -- the holding under which a filter was put, or of which it is a double, is equivalent to it
    placing_composes : (ok : Readable m M) (F H J : Table G T) → Composition m F H J → (r : Result ℕ Fault) (A : Memory G T) → Placing m S M J r A → (n : ℕ) → (r ≡ Ok n) ⊎ (r ≡ Err (Double n)) → Composition m F H (numbered A n)
    placing_composes ok F H J C r A (short_scratch k low) n is = absurd (grind arith)
    placing_composes ok F H J C r A (double k e low) n is =
        let same : k ≡ n = grind arith in
        let at : low.place ≡ n - 1 = omega (arith, low.number, same) in
        equivalent_composes F H J (numbered M n) C (subst (λ p. Equivalent m J (holding M p)) at low.here)
    placing_composes ok F H J C r A (full e new room) n is = absurd (grind arith)
    placing_composes ok F H J C r A (held e new room) n is =
        let next : M.head.holdings + 1 ≡ n = grind arith in
        let at : n - 1 ≡ M.head.holdings = omega (arith, next) in
        let last = (adds M J (readable_fits m M ok) room).last in
        subst (Composition m F H) (sym (ap (holding (appended M J)) at ∙ last)) C

    -- the joined filter of two holdings is their composition
    joined_composes_lem : (ok : Readable m M) (i j : ℕ) → Has M i → Has M j → Limited (joined_at m M i j) → Composition m (numbered M i) (numbered M j) (joined_at m M i j)
    joined_composes_lem ok i j hi hj limited =
        let L = joining-laws m laws (numbered M i) (numbered M j) (readable_sound m laws M ok (i - 1) (omega arith)) (readable_sound m laws M ok (j - 1) (omega arith)) in
        record { splits = λ u v w. (L.writes limited u v).0 w; joins = λ u t v x y. (L.writes limited u v).1 t x y }

    does_composes : (q : Request G T) (r : Result ℕ Fault) (A : Memory G T) → Does m S M q r A → (i j : ℕ) (L : Lists) → q ≡ Joining i j L → JoinedUnder m M i j r A
    does_composes q r A (unreadable q₁ f e) i j L is n was = absurd (go was)
      where
        go : (◌≡◌ {A = Result ℕ Fault} (Err f) (Ok n)) ⊎ (◌≡◌ {A = Result ℕ Fault} (Err f) (Err (Double n))) → ⊥
        go (inl x) = grind arith
        go (inr x) = shelf_no_double n (let same : f ≡ Double n = cc in e ∙ ap Err same)
    does_composes q r A (unsound D f o e) i j L is n was = absurd (grind arith)
    does_composes q r A (no_first i₁ j₁ L₁ o none) i j L is n was = absurd (grind arith)
    does_composes q r A (no_second i₁ j₁ L₁ o has none) i j L is n was = absurd (grind arith)
    does_composes q r A (too_large i₁ j₁ L₁ o hi hj over) i j L is n was = absurd (grind arith)
    does_composes q r A (files D r₁ A₁ o e p) i j L is n was = absurd (grind arith)
    does_composes q r A (joins i₁ j₁ L₁ r₁ A₁ o hi hj limited room p) i j L is n was =
        let first : i₁ ≡ i = cc in
        let second : j₁ ≡ j = cc in
        subst (λ k. Composition m (numbered M k) (numbered M j) (numbered A n)) first
        (subst (λ k. Composition m (numbered M i₁) (numbered M k) (numbered A n)) second
        (placing_composes o (numbered M i₁) (numbered M j₁) (joined_at m M i₁ j₁) (joined_composes_lem o i₁ j₁ hi hj limited) r A p n was))

    -- so of every joining
    pub joining_composes : {i j : ℕ} {L : Lists} {r : Result ℕ Fault} {A : Memory G T} → Does m S M (Joining i j L) r A → JoinedUnder m M i j r A
    joining_composes {i} {j} {L} {r} {A} D = does_composes (Joining i j L) r A D i j L refl
