-- Tables written and read back are the same tables.
use Rattle.std.proofs.Common.{◌≡◌, ℕ, ◌+◌, ◌*◌, ◌≤◌, Bool, true, eqb, leb, List, [], ◌∷◌, ◌++◌, map, length, drop, None, Ok, sum_by, Result, sym, refl, ap, ◌∙◌, arith}
use Rattle.std.specs.List.{AllByRecursion, flat_map}
use Rattle.std.proofs.lemmas.List.{append_assoc, drop_at, drop-drop, length-append, length-map}
use Rattle.std.proofs.lemmas.List.Sums.{sum_by-cons}
use Rattle.std.proofs.lemmas.Bool.Decides.{nat_tests}
use Rattle.table.specs.declared.entries.State.{State}
use Rattle.table.specs.declared.entries.Rule.{Rule}
use Rattle.table.specs.Table.{Table}
use Rattle.codec_laws.specs.Code.{Code, Exact, Free}
use Rattle.codec_laws.specs.Entries.{entry_code, state_code, rule_code}
use Rattle.codec_laws.specs.Lists.{or_else, image_all, records, wrong_from, FitAll}
use Rattle.codec_laws.proofs.Laws.{entry_exact, state_exact, rule_exact}
use Rattle.codec_laws.proofs.Lists.{clean_back, records_back, size_all}
use Rattle.stored_laws.specs.declared.StoredFault.{StoredFault}
use Rattle.stored_laws.specs.declared.StoredFault.TheVariants.{CutShort, OtherAlphabet, TooManyHoldings, LeftOver}
use Rattle.stored_laws.specs.Format.{counts_of, to_rules, to_outputs_lem, body_size, then, unless, none_wrong, contents, bodies_at, file_size, wrong_in, checked_file, body_of, bytes_of, table_in, tables_in, parsed}

pub same_table : {G T : Type 0} (A B : Table G T) → A.states ≡ B.states → A.rules ≡ B.rules → A.outputs ≡ B.outputs → A ≡ B
same_table {G} {T} A B s r o =
    let table : List State → List (Rule G) → List T → Table G T = λ x y z. record { states = x; rules = y; outputs = z } in
    ap (λ x. table x A.rules A.outputs) s ∙ ap (λ y. table B.states y A.outputs) r ∙ ap (table B.states B.rules) o

-- a test that is passed
pub passed : {X : Type 0} (b : Bool) (f : StoredFault) (r : Result X StoredFault) → b ≡ true → then (unless b f) r ≡ r
passed b f r e = ap (λ x. then (unless x f) r) e

-- what stands behind a piece of a list
after : (file front back : List ℕ) (p n : ℕ) → drop p file ≡ front ++ back → length front ≡ n → drop (p + n) file ≡ back
after file front back p n e h = sym (drop-drop n p file) ∙ ap (drop n) e ∙ drop_at front back n h

module _ {G T : Type 0} (guard : Code G) (term : Code T) (guards : Exact guard) (wide : guard.width ≡ 8) (free : Free guard) (terms : Exact term) (five : term.width ≡ 5) where
  rules : Exact (rule_code guard)
  rules = rule_exact guard guards wide free

  -- every record of the table fits its bytes, and so do its counts
  pub record Fit (F : Table G T) : Type 0 where
    pub counts : entry_code.fits (counts_of F) ≡ true
    pub states : FitAll state_code F.states
    pub rules : FitAll (rule_code guard) F.rules
    pub outputs : FitAll term F.outputs

  five_each : (n : ℕ) → n * term.width ≡ n * 5
  five_each n = ap (λ w. n * w) five

  pub body_size_lem : (F : Table G T) → length (body_of guard term F) ≡ body_size (counts_of F)
  body_size_lem F =
      let S = image_all state_code F.states in
      let R = image_all (rule_code guard) F.rules in
      let O = image_all term F.outputs in
      omega (arith, length-append S (R ++ O), length-append R O, size_all state_code state_exact F.states, size_all (rule_code guard) rules F.rules, size_all term terms F.outputs, five_each (length F.outputs))

  pub bodies_size : (Fs : List (Table G T)) → length (flat_map (body_of guard term) Fs) ≡ sum_by body_size (map counts_of Fs)
  bodies_size [] = refl
  bodies_size (F ∷ Fs) = omega (arith, length-append (body_of guard term F) (flat_map (body_of guard term) Fs), body_size_lem F, bodies_size Fs, sum_by-cons body_size (counts_of F) (map counts_of Fs))

  -- where the parts of a body stand
  module _ (file rest : List ℕ) (p : ℕ) (F : Table G T) (e : drop p file ≡ body_of guard term F ++ rest) where
    S : List ℕ
    S = image_all state_code F.states

    R : List ℕ
    R = image_all (rule_code guard) F.rules

    O : List ℕ
    O = image_all term F.outputs

    at_states : drop p file ≡ S ++ ((R ++ O) ++ rest)
    unfolding S R O
    at_states = e ∙ append_assoc S (R ++ O) rest

    at_rules : drop (p + to_rules (counts_of F)) file ≡ R ++ (O ++ rest)
    unfolding S R O
    at_rules = after file S ((R ++ O) ++ rest) p (to_rules (counts_of F)) at_states (size_all state_code state_exact F.states) ∙ append_assoc R O rest

    at_outputs : drop (p + to_outputs_lem (counts_of F)) file ≡ O ++ rest
    unfolding S R O
    at_outputs =
        let q : (p + to_rules (counts_of F)) + length F.rules * 14 ≡ p + to_outputs_lem (counts_of F) = omega arith in
        ap (λ n. drop n file) (sym q) ∙ after file R (O ++ rest) (p + to_rules (counts_of F)) (length F.rules * 14) at_rules (size_all (rule_code guard) rules F.rules)

    table_back : Fit F → table_in guard term file p (counts_of F) ≡ F
    unfolding S R O
    table_back fit =
        let s = ap (records state_code (length F.states)) at_states ∙ records_back state_code state_exact F.states ((R ++ O) ++ rest) fit.states in
        let r = ap (records (rule_code guard) (length F.rules)) at_rules ∙ records_back (rule_code guard) rules F.rules (O ++ rest) fit.rules in
        let o = ap (records term (length F.outputs)) at_outputs ∙ records_back term terms F.outputs rest fit.outputs in
        same_table (table_in guard term file p (counts_of F)) F s r o

    outputs_clean : Fit F → wrong_from term (p + to_outputs_lem (counts_of F)) (length F.outputs) (drop (p + to_outputs_lem (counts_of F)) file) ≡ None
    unfolding S R O
    outputs_clean fit = ap (wrong_from term (p + to_outputs_lem (counts_of F)) (length F.outputs)) at_outputs ∙ clean_back term terms (p + to_outputs_lem (counts_of F)) F.outputs rest fit.outputs

    at_next : drop (p + body_size (counts_of F)) file ≡ rest
    at_next = after file (body_of guard term F) rest p (body_size (counts_of F)) e (body_size_lem F)

  pub tables_back : (file : List ℕ) (p : ℕ) (Fs : List (Table G T)) → drop p file ≡ flat_map (body_of guard term) Fs → AllByRecursion Fit Fs → tables_in guard term file p (map counts_of Fs) ≡ Fs
  tables_back file p [] e fit = refl
  tables_back file p (F ∷ Fs) e fit =
      let rest = flat_map (body_of guard term) Fs in
      let ih = tables_back file (p + body_size (counts_of F)) Fs (at_next file rest p F e) fit.1 in
      ap (λ (x : Table G T). x ∷ tables_in guard term file (p + body_size (counts_of F)) (map counts_of Fs)) (table_back file rest p F e fit.0) ∙ ap (λ l. F ∷ l) ih

  pub bodies_clean : (file : List ℕ) (p : ℕ) (Fs : List (Table G T)) → drop p file ≡ flat_map (body_of guard term) Fs → AllByRecursion Fit Fs → wrong_in term file p (map counts_of Fs) ≡ None
  bodies_clean file p [] e fit = refl
  bodies_clean file p (F ∷ Fs) e fit =
      let rest = flat_map (body_of guard term) Fs in
      ap (λ o. or_else o (wrong_in term file (p + body_size (counts_of F)) (map counts_of Fs))) (outputs_clean file rest p F e fit.0)
      ∙ bodies_clean file (p + body_size (counts_of F)) Fs (at_next file rest p F e) fit.1

  counts_fit : (Fs : List (Table G T)) → AllByRecursion Fit Fs → FitAll entry_code (map counts_of Fs)
  counts_fit [] fit = tt
  counts_fit (F ∷ Fs) fit = (fit.0.counts, counts_fit Fs fit.1)

  module _ (k : ℕ) (Fs : List (Table G T)) (few : length Fs ≤ 16) (fit : AllByRecursion Fit Fs) where
    file : List ℕ
    file = bytes_of guard term k Fs

    counted : length (map counts_of Fs) ≡ length Fs
    counted = length-map Fs counts_of

    front_size : length (image_all entry_code (map counts_of Fs)) ≡ length Fs * 6
    front_size = size_all entry_code entry_exact (map counts_of Fs) ∙ ap (λ n. n * 6) counted

    contents_back : contents file ≡ map counts_of Fs
    unfolding file
    contents_back =
        ap (λ n. records entry_code n (image_all entry_code (map counts_of Fs) ++ flat_map (body_of guard term) Fs)) (sym counted)
        ∙ records_back entry_code entry_exact (map counts_of Fs) (flat_map (body_of guard term) Fs) (counts_fit Fs fit)

    bodies_there : drop (bodies_at file) file ≡ flat_map (body_of guard term) Fs
    unfolding file
    bodies_there = after file (image_all entry_code (map counts_of Fs)) (flat_map (body_of guard term) Fs) 2 (length Fs * 6) refl front_size

    size_right : file_size file ≡ length file
    unfolding file
    size_right =
        let A = image_all entry_code (map counts_of Fs) in
        let B = flat_map (body_of guard term) Fs in
        let e = ap (sum_by body_size) contents_back in
        omega (arith, e, front_size, bodies_size Fs, length-append A B)

    file_passes : checked_file term file k ≡ Ok tt
    unfolding file
    file_passes =
        let A = image_all entry_code (map counts_of Fs) in
        let B = flat_map (body_of guard term) Fs in
        let size = size_right in
        let starts = front_size in
        let long = length-append A B in
        passed (leb 2 (length file)) (CutShort (length file)) _ (grind (arith, nat_tests))
        ∙ passed (eqb k k) OtherAlphabet _ (grind (arith, nat_tests))
        ∙ passed (leb (length Fs) 16) TooManyHoldings _ (grind (arith, nat_tests))
        ∙ passed (leb (bodies_at file) (length file)) (CutShort (length file)) _ (grind (arith, nat_tests))
        ∙ passed (leb (file_size file) (length file)) (CutShort (length file)) _ (grind (arith, nat_tests))
        ∙ passed (leb (length file) (file_size file)) (LeftOver (file_size file)) _ (grind (arith, nat_tests))
        ∙ ap none_wrong (ap (wrong_in term file (bodies_at file)) contents_back ∙ bodies_clean file (bodies_at file) Fs bodies_there fit)

    -- the bytes of tables mean the tables
    pub parsed_back : parsed guard term k (bytes_of guard term k Fs) ≡ Ok Fs
    unfolding file
    parsed_back =
        ap (λ r. then r (Ok (tables_in guard term file (bodies_at file) (contents file)))) file_passes
        ∙ ap (λ es. Ok (tables_in guard term file (bodies_at file) es)) contents_back
        ∙ ap Ok (tables_back file (bodies_at file) Fs bodies_there fit)
