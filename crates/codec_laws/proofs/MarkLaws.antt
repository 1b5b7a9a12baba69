-- Sets of marks and their terms are read and written exactly.
use Rattle.std.proofs.Common.{◌≡◌, ℕ, ◌%◌, ◌<◌, Bool, true, false, cond, eqb, List, length, None, refl, ap, ◌∙◌, ⊎_elim, arith, eq-eqb}
use Rattle.std.proofs.lemmas.Bool.{cases_eq}
use Rattle.std.proofs.lemmas.Bool.Decides.{nat_tests}
use Rattle.mark_laws.specs.declared.MarkSet.{MarkSet}
use Rattle.mark_laws.specs.declared.MarkTerm.{MarkTerm}
use Rattle.mark_laws.specs.declared.MarkTerm.TheVariants.{Constant, Turn}
use Rattle.codec_laws.specs.Code.{Bytes, Exact, Free}
use Rattle.codec_laws.specs.Numbers.{at, four_at}
use Rattle.codec_laws.specs.Marks.{set_code, mark_term_code, term_image, term_fits, term_wrong}
use Rattle.codec_laws.proofs.Numbers.{four_back, eight_back, eight_again, byte_at, cells, cells_all}
use Rattle.codec_laws.proofs.Laws.{cong2, tagged}

set_back : (g : MarkSet) → set_code.fits g ≡ true → set_code.meaning (set_code.image g) ≡ g
set_back g h =
    let set : ℕ → MarkSet = λ n. record { bits = n } in
    ap set (eight_back g.bits (grind (arith, nat_tests)))

set_again : (bs : List ℕ) → length bs ≡ 8 → Bytes bs → set_code.image (set_code.meaning bs) ≡ bs
set_again bs h all =
    let b = byte_at bs all in
    eight_again (at bs 0) (at bs 1) (at bs 2) (at bs 3) (at bs 4) (at bs 5) (at bs 6) (at bs 7) (b 0) (b 1) (b 2) (b 3) (b 4) (b 5) (b 6) (b 7)
    ∙ cells_all bs 8 h

pub set_free : Free set_code
set_free bs = refl

pub set_exact : Exact set_code
set_exact = record {
  size = λ g. refl;
  back = set_back;
  clean = λ g h. refl;
  inside = λ bs k e. grind arith;
  again = λ bs h all ok. set_again bs h all;
}

term_size : (t : MarkTerm) → length (term_image t) ≡ 5
term_size (Constant c) = refl
term_size (Turn a b) = refl

term_back : (t : MarkTerm) → term_fits t ≡ true → mark_term_code.meaning (term_image t) ≡ t
term_back (Constant c) h = ap Constant (four_back c (grind (arith, nat_tests)))
term_back (Turn a b) h =
    let p : a < 256 = grind (arith, nat_tests) in
    let q : b < 256 = grind (arith, nat_tests) in
    let e : a % 256 ≡ a = omega arith in
    let f : b % 256 ≡ b = omega arith in
    cong2 Turn e f

term_clean : (t : MarkTerm) → term_fits t ≡ true → term_wrong (term_image t) ≡ None
term_clean (Constant c) h = refl
term_clean (Turn a b) h = refl

-- a turn: the tag 1, two bytes that are 0, and two below 256
turned : (bs : List ℕ) → length bs ≡ 5 → Bytes bs → at bs 0 ≡ 1 → at bs 1 ≡ 0 → at bs 2 ≡ 0 → term_image (Turn (at bs 3) (at bs 4)) ≡ bs
turned bs h all tag one two =
    let p = byte_at bs all 3 in
    let q = byte_at bs all 4 in
    let e : at bs 3 % 256 ≡ at bs 3 = omega arith in
    let f : at bs 4 % 256 ≡ at bs 4 = omega arith in
    let same : term_image (Turn (at bs 3) (at bs 4)) ≡ cells bs 0 5 = cc in
    same ∙ cells_all bs 5 h

term_again : (bs : List ℕ) → length bs ≡ 5 → Bytes bs → term_wrong bs ≡ None → term_image (mark_term_code.meaning bs) ≡ bs
term_again bs h all ok =
    let term : Bool → MarkTerm = λ b. cond b (Constant (four_at bs 1)) (Turn (at bs 3) (at bs 4)) in
    let zero : at bs 0 ≡ 0 → term_image (mark_term_code.meaning bs) ≡ bs
    = λ e. ap (λ b. term_image (term b)) (eq-eqb (at bs 0) 0 e) ∙ tagged bs h all 0 e in
    let other : (at bs 0 ≡ 0 → ⊥) → term_image (mark_term_code.meaning bs) ≡ bs
    = λ e.
    let f : eqb (at bs 0) 0 ≡ false = grind (arith, nat_tests) in
    let tag : at bs 0 ≡ 1 = grind (arith, nat_tests) in
    let one : at bs 1 ≡ 0 = grind (arith, nat_tests) in
    let two : at bs 2 ≡ 0 = grind (arith, nat_tests) in
    ap (λ b. term_image (term b)) f ∙ turned bs h all tag one two in
    ⊎_elim zero other (cases_eq (at bs 0) 0)

pub mark_term_exact : Exact mark_term_code
mark_term_exact = record {
  size = term_size;
  back = term_back;
  clean = term_clean;
  inside = λ bs k e. grind (arith, nat_tests);
  again = term_again;
}
