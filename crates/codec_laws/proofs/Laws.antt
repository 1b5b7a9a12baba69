-- Every kind of record is read and written exactly.
use Rattle.std.proofs.Common.{◌≡◌, ℕ, ◌+◌, ◌<◌, Bool, true, false, cond, eqb, List, [], ◌∷◌, ◌++◌, length, drop, ℤ, pos, negsuc, nat_abs, None, sym, refl, ap, ◌∙◌, ⊎_elim, arith, length-drop, to_z-of_z, w32, SFits, to_z, of_z, eq-eqb}
use mir.Facts.{of_z-to_z, Fits-of_z}
use Rattle.std.proofs.ByRecursion.{All-drop}
use Rattle.std.proofs.lemmas.Bool.{cases_eq}
use Rattle.std.proofs.lemmas.Bool.Decides.{nat_tests}
use Rattle.table.specs.declared.entries.State.{State}
use Rattle.table.specs.declared.entries.Rule.{Rule}
use Rattle.range_laws.specs.declared.Range.{Range}
use Rattle.range_laws.specs.declared.RangeTerm.{RangeTerm}
use Rattle.range_laws.specs.declared.RangeTerm.TheVariants.{Constant, Shift}
use Rattle.holdings.specs.declared.memory.Entry.{Entry}
use Rattle.codec_laws.specs.Code.{Code, Bytes, Exact, Free}
use Rattle.codec_laws.specs.Numbers.{two, four, at, two_at, four_at}
use Rattle.codec_laws.specs.Entries.{entry_code, state_code, rule_code}
use Rattle.codec_laws.specs.Ranges.{range_code, range_term_code, term_image, term_fits}
use Rattle.codec_laws.proofs.Numbers.{two_back, four_back, two_again, four_again, byte_at, cells, cells_all, front_cells}

pub cong2 : {X Y : Type 0} (f : X → X → Y) {a b : X} {u v : X} → a ≡ b → u ≡ v → f a u ≡ f b v
cong2 f p q = cc

pub cong3 : {X Y : Type 0} (f : X → X → X → Y) {a b : X} {u v : X} {x y : X} → a ≡ b → u ≡ v → x ≡ y → f a u x ≡ f b v y
cong3 f p q r = cc

-- two and four bytes of a list, read and written again
two_of : (bs : List ℕ) → Bytes bs → (k : ℕ) → two (two_at bs k) ≡ at bs k ∷ at bs (k + 1) ∷ []
two_of bs all k = two_again (at bs k) (at bs (k + 1)) (byte_at bs all k) (byte_at bs all (k + 1))

four_of : (bs : List ℕ) → Bytes bs → (k : ℕ) → four (four_at bs k) ≡ at bs k ∷ at bs (k + 1) ∷ at bs (k + 2) ∷ at bs (k + 3) ∷ []
four_of bs all k = four_again (at bs k) (at bs (k + 1)) (at bs (k + 2)) (at bs (k + 3)) (byte_at bs all k) (byte_at bs all (k + 1)) (byte_at bs all (k + 2)) (byte_at bs all (k + 3))

entry_back : (e : Entry) → entry_code.fits e ≡ true → entry_code.meaning (entry_code.image e) ≡ e
entry_back e h =
    let entry : ℕ → ℕ → ℕ → Entry = λ s r o. record { states = s; rules = r; outputs = o } in
    cong3 entry (two_back e.states (grind (arith, nat_tests))) (two_back e.rules (grind (arith, nat_tests))) (two_back e.outputs (grind (arith, nat_tests)))

entry_again : (bs : List ℕ) → length bs ≡ 6 → Bytes bs → entry_code.image (entry_code.meaning bs) ≡ bs
entry_again bs h all = cong3 (λ x y z. x ++ (y ++ z)) (two_of bs all 0) (two_of bs all 2) (two_of bs all 4) ∙ cells_all bs 6 h

pub entry_exact : Exact entry_code
entry_exact = record {
  size = λ e. refl;
  back = entry_back;
  clean = λ e h. refl;
  inside = λ bs k e. grind arith;
  again = λ bs h all ok. entry_again bs h all;
}

state_back : (s : State) → state_code.fits s ≡ true → state_code.meaning (state_code.image s) ≡ s
state_back s h =
    let state : ℕ → State = λ f. record { mark = s.mark; finals = f } in
    ap state (two_back s.finals (grind (arith, nat_tests)))

state_again : (bs : List ℕ) → length bs ≡ 3 → Bytes bs → state_code.image (state_code.meaning bs) ≡ bs
state_again bs h all = ap (λ l. at bs 0 ∷ l) (two_of bs all 1) ∙ cells_all bs 3 h

pub state_exact : Exact state_code
state_exact = record {
  size = λ s. refl;
  back = state_back;
  clean = λ s h. refl;
  inside = λ bs k e. grind arith;
  again = λ bs h all ok. state_again bs h all;
}

range_back : (g : Range) → range_code.fits g ≡ true → range_code.meaning (range_code.image g) ≡ g
range_back g h =
    let range : ℕ → ℕ → Range = λ l u. record { low = l; high = u } in
    cong2 range (four_back g.low (grind (arith, nat_tests))) (four_back g.high (grind (arith, nat_tests)))

range_again : (bs : List ℕ) → length bs ≡ 8 → Bytes bs → range_code.image (range_code.meaning bs) ≡ bs
range_again bs h all = cong2 (λ x y. x ++ y) (four_of bs all 0) (four_of bs all 4) ∙ cells_all bs 8 h

pub range_free : Free range_code
range_free bs = refl

pub range_exact : Exact range_code
range_exact = record {
  size = λ g. refl;
  back = range_back;
  clean = λ g h. refl;
  inside = λ bs k e. grind arith;
  again = λ bs h all ok. range_again bs h all;
}

term_size : (t : RangeTerm) → length (term_image t) ≡ 5
term_size (Constant c) = refl
term_size (Shift k) = refl

shift_fits : (k : ℤ) → nat_abs k < 2147483648 → SFits w32 k
shift_fits (pos n) h = record { sfits = omega arith }
shift_fits (negsuc n) h = record { sfits = omega arith }

bits_fit : (k : ℤ) → SFits w32 k → of_z w32 k < 4294967296
bits_fit k h = (Fits-of_z h).fits

term_back : (t : RangeTerm) → term_fits t ≡ true → range_term_code.meaning (term_image t) ≡ t
term_back (Constant c) h = ap Constant (four_back c (grind (arith, nat_tests)))
term_back (Shift k) h =
    let f = shift_fits k (grind (arith, nat_tests)) in
    ap (λ n. Shift (to_z w32 n)) (four_back (of_z w32 k) (bits_fit k f)) ∙ ap Shift (to_z-of_z f)

term_clean : (t : RangeTerm) → term_fits t ≡ true → range_term_code.wrong (term_image t) ≡ None
term_clean (Constant c) h = refl
term_clean (Shift k) h = refl

four_fits : (bs : List ℕ) → Bytes bs → (k : ℕ) → four_at bs k < 4294967296
four_fits bs all k =
    let p = byte_at bs all k in
    let q = byte_at bs all (k + 1) in
    let r = byte_at bs all (k + 2) in
    let s = byte_at bs all (k + 3) in
    omega arith

-- a tag and four bytes behind it
pub tagged : (bs : List ℕ) → length bs ≡ 5 → Bytes bs → (k : ℕ) → at bs 0 ≡ k → k ∷ four (four_at bs 1) ≡ bs
tagged bs h all k e = ap (λ l. k ∷ l) (four_of bs all 1) ∙ ap (λ x. x ∷ cells bs 1 4) (sym e) ∙ cells_all bs 5 h

term_again : (bs : List ℕ) → length bs ≡ 5 → Bytes bs → range_term_code.wrong bs ≡ None → term_image (range_term_code.meaning bs) ≡ bs
term_again bs h all ok =
    let n = four_at bs 1 in
    let term : Bool → RangeTerm = λ b. cond b (Constant n) (Shift (to_z w32 n)) in
    let bits : of_z w32 (to_z w32 n) ≡ n = of_z-to_z {w = w32} (record { fits = four_fits bs all 1 }) in
    let zero : at bs 0 ≡ 0 → term_image (range_term_code.meaning bs) ≡ bs
    = λ e. ap (λ b. term_image (term b)) (eq-eqb (at bs 0) 0 e) ∙ tagged bs h all 0 e in
    let other : (at bs 0 ≡ 0 → ⊥) → term_image (range_term_code.meaning bs) ≡ bs
    = λ e.
    let one : at bs 0 ≡ 1 = grind (arith, nat_tests) in
    let f : eqb (at bs 0) 0 ≡ false = grind (arith, nat_tests) in
    ap (λ b. term_image (term b)) f ∙ ap (λ m. 1 ∷ four m) bits ∙ tagged bs h all 1 one in
    ⊎_elim zero other (cases_eq (at bs 0) 0)

pub range_term_exact : Exact range_term_code
range_term_exact = record {
  size = term_size;
  back = term_back;
  clean = term_clean;
  inside = λ bs k e. grind (arith, nat_tests);
  again = term_again;
}

module _ {G : Type 0} (c : Code G) (exact : Exact c) (wide : c.width ≡ 8) (free : Free c) where
  rule_size : (r : Rule G) → length ((rule_code c).image r) ≡ 14
  rule_size r = let g = exact.size r.guard in omega arith

  rule_back : (r : Rule G) → (rule_code c).fits r ≡ true → (rule_code c).meaning ((rule_code c).image r) ≡ r
  rule_back r h =
      let rule : ℕ → ℕ → ℕ → G → Rule G = λ s n o g. record { state = s; next = n; outputs = o; guard = g } in
      let g : c.meaning (c.image r.guard) ≡ r.guard = exact.back r.guard (grind (arith, nat_tests)) in
      cong3 (λ s n o. rule s n o (c.meaning (c.image r.guard))) (two_back r.state (grind (arith, nat_tests))) (two_back r.next (grind (arith, nat_tests))) (two_back r.outputs (grind (arith, nat_tests)))
      ∙ ap (rule r.state r.next r.outputs) g

  rule_again : (bs : List ℕ) → length bs ≡ 14 → Bytes bs → (rule_code c).image ((rule_code c).meaning bs) ≡ bs
  rule_again bs h all =
      let g : c.image (c.meaning (drop 6 bs)) ≡ drop 6 bs
      = exact.again (drop 6 bs) (omega (arith, length-drop 6 bs)) (All-drop (λ b. b < 256) 6 bs all) (free (drop 6 bs)) in
      cong3 (λ x y z. x ++ (y ++ (z ++ c.image (c.meaning (drop 6 bs))))) (two_of bs all 0) (two_of bs all 2) (two_of bs all 4)
      ∙ ap (λ l. cells bs 0 6 ++ l) g
      ∙ front_cells bs 6 (omega arith)

  pub rule_exact : Exact (rule_code c)
  rule_exact = record {
    size = rule_size;
    back = rule_back;
    clean = λ r h. refl;
    inside = λ bs k e. grind arith;
    again = λ bs h all ok. rule_again bs h all;
  }
