-- A file read and written again has the same bytes.
use Rattle.std.proofs.Common.{◌≡◌, ℕ, suc, ◌+◌, ◌-◌, ◌*◌, ◌<◌, ◌≤◌, Bool, true, eqb, leb, List, [], ◌∷◌, ◌++◌, map, length, take, drop, Some, None, Ok, sum_by, Option, Result, sym, refl, ap, ◌∙◌, arith, length-drop, take-add}
use Rattle.std.specs.List.{flat_map}
use Rattle.std.proofs.ByRecursion.{All-drop}
use Rattle.std.proofs.lemmas.List.{drop_all, drop-drop, drop_more, take-append-drop}
use Rattle.std.proofs.lemmas.List.Sums.{sum_by-cons}
use Rattle.std.proofs.lemmas.Bool.Decides.{nat_tests}
use Rattle.holdings.specs.declared.memory.Entry.{Entry}
use Rattle.codec_laws.specs.Code.{Code, Bytes, Exact, Free}
use Rattle.codec_laws.specs.Numbers.{at}
use Rattle.codec_laws.specs.Entries.{entry_code, state_code, rule_code}
use Rattle.codec_laws.specs.Lists.{image_all, wrong_from}
use Rattle.codec_laws.proofs.Laws.{cong3, entry_exact, state_exact, rule_exact}
use Rattle.codec_laws.proofs.Lists.{free_all, or_none, records_again, records_length}
use Rattle.stored_laws.specs.declared.StoredFault.{StoredFault}
use Rattle.stored_laws.specs.declared.StoredFault.TheVariants.{CutShort, OtherAlphabet, TooManyHoldings, LeftOver}
use Rattle.stored_laws.specs.Format.{counts_of, to_rules, to_outputs_lem, body_size, then, unless, none_wrong, contents, bodies_at, file_size, wrong_in, checked_file, body_of, bytes_of, table_in, tables_in}

-- two pieces of a list, one behind the other
pieces : (file : List ℕ) (p a b : ℕ) → take a (drop p file) ++ take b (drop (p + a) file) ≡ take (a + b) (drop p file)
pieces file p a b = ap (λ l. take a (drop p file) ++ take b l) (sym (drop-drop a p file)) ∙ sym (take-add a b (drop p file))

-- a passed test, and what comes behind it
test_of : {X : Type 0} (b : Bool) (f : StoredFault) (r : Result X StoredFault) (x : X) → then (unless b f) r ≡ Ok x → b ≡ true
test_of b f r x e = grind (arith, nat_tests)

rest_of : {X : Type 0} (b : Bool) (f : StoredFault) (r : Result X StoredFault) (x : X) → then (unless b f) r ≡ Ok x → r ≡ Ok x
rest_of b f r x e = grind (arith, nat_tests)

none_of : (o : Option ℕ) → none_wrong o ≡ Ok tt → o ≡ None
none_of None e = refl
none_of (Some p) e = grind arith

-- what a file without a fault is like
pub record Passes {T : Type 0} (term : Code T) (file : List ℕ) (k : ℕ) : Type 0 where
  pub long : 2 ≤ length file
  pub alphabet : at file 0 ≡ k
  pub few : at file 1 ≤ 16
  pub starts : bodies_at file ≤ length file
  pub size : file_size file ≡ length file
  pub clean : wrong_in term file (bodies_at file) (contents file) ≡ None

pub passes : {T : Type 0} (term : Code T) (file : List ℕ) (k : ℕ) → checked_file term file k ≡ Ok tt → Passes term file k
passes term file k e1 =
    let e2 = rest_of (leb 2 (length file)) (CutShort (length file)) _ tt e1 in
    let e3 = rest_of (eqb (at file 0) k) OtherAlphabet _ tt e2 in
    let e4 = rest_of (leb (at file 1) 16) TooManyHoldings _ tt e3 in
    let e5 = rest_of (leb (bodies_at file) (length file)) (CutShort (length file)) _ tt e4 in
    let e6 = rest_of (leb (file_size file) (length file)) (CutShort (length file)) _ tt e5 in
    let e7 = rest_of (leb (length file) (file_size file)) (LeftOver (file_size file)) _ tt e6 in
    let t1 = test_of (leb 2 (length file)) (CutShort (length file)) _ tt e1 in
    let t2 = test_of (eqb (at file 0) k) OtherAlphabet _ tt e2 in
    let t3 = test_of (leb (at file 1) 16) TooManyHoldings _ tt e3 in
    let t4 = test_of (leb (bodies_at file) (length file)) (CutShort (length file)) _ tt e4 in
    let t5 = test_of (leb (file_size file) (length file)) (CutShort (length file)) _ tt e5 in
    let t6 = test_of (leb (length file) (file_size file)) (LeftOver (file_size file)) _ tt e6 in
    let low : file_size file ≤ length file = grind (arith, nat_tests) in
    let high : length file ≤ file_size file = grind (arith, nat_tests) in
    record {
      long = grind (arith, nat_tests);
      alphabet = grind (arith, nat_tests);
      few = grind (arith, nat_tests);
      starts = grind (arith, nat_tests);
      size = omega arith;
      clean = none_of (wrong_in term file (bodies_at file) (contents file)) e7;
    }

module _ {G T : Type 0} (guard : Code G) (term : Code T) where
  -- the counts of a table that was read are those of the contents
  pub counts_again : (file : List ℕ) (p : ℕ) (e : Entry) → counts_of (table_in guard term file p e) ≡ e
  counts_again file p e =
      let entry : ℕ → ℕ → ℕ → Entry = λ s r o. record { states = s; rules = r; outputs = o } in
      cong3 entry (records_length state_code e.states (drop p file)) (records_length (rule_code guard) e.rules (drop (p + to_rules e) file)) (records_length term e.outputs (drop (p + to_outputs_lem e) file))

  pub all_counts : (file : List ℕ) (p : ℕ) (es : List Entry) → map counts_of (tables_in guard term file p es) ≡ es
  all_counts file p [] = refl
  all_counts file p (e ∷ es) =
      ap (λ (x : Entry). x ∷ map counts_of (tables_in guard term file (p + body_size e) es)) (counts_again file p e) ∙ ap (λ l. e ∷ l) (all_counts file (p + body_size e) es)

  pub tables_number : (file : List ℕ) (p : ℕ) (es : List Entry) → length (tables_in guard term file p es) ≡ length es
  tables_number file p [] = refl
  tables_number file p (e ∷ es) = ap suc (tables_number file (p + body_size e) es)

  module _ (guards : Exact guard) (wide : guard.width ≡ 8) (free : Free guard) (terms : Exact term) (five : term.width ≡ 5) (file : List ℕ) (bytes : Bytes file) where
    rules : Exact (rule_code guard)
    rules = rule_exact guard guards wide free

    dropped : (p : ℕ) → Bytes (drop p file)
    dropped p = All-drop (λ b. b < 256) p file bytes

    body_again : (p : ℕ) (e : Entry) → p + body_size e ≤ length file → wrong_from term (p + to_outputs_lem e) e.outputs (drop (p + to_outputs_lem e) file) ≡ None → body_of guard term (table_in guard term file p e) ≡ take (body_size e) (drop p file)
    body_again p e h ok =
        let s = e.states in
        let r = e.rules in
        let o = e.outputs in
        let five_each : o * term.width ≡ o * 5 = ap (λ w. o * w) five in
        let S = records_again state_code state_exact s 0 (drop p file) (omega (arith, length-drop p file)) (dropped p) (free_all state_code (λ bs. refl) s 0 (drop p file)) in
        let R = records_again (rule_code guard) rules r 0 (drop (p + to_rules e) file) (omega (arith, length-drop (p + to_rules e) file)) (dropped (p + to_rules e)) (free_all (rule_code guard) (λ bs. refl) r 0 (drop (p + to_rules e) file)) in
        let O = records_again term terms o (p + to_outputs_lem e) (drop (p + to_outputs_lem e) file) (omega (arith, length-drop (p + to_outputs_lem e) file)) (dropped (p + to_outputs_lem e)) ok ∙ ap (λ n. take n (drop (p + to_outputs_lem e) file)) five_each in
        let q : p + to_outputs_lem e ≡ p + to_rules e + r * 14 = omega arith in
        cong3 (λ x y z. x ++ (y ++ z)) S R O
        ∙ ap (λ n. take (s * 3) (drop p file) ++ (take (r * 14) (drop (p + to_rules e) file) ++ take (o * 5) (drop n file))) q
        ∙ ap (λ l. take (s * 3) (drop p file) ++ l) (pieces file (p + to_rules e) (r * 14) (o * 5))
        ∙ pieces file p (s * 3) (r * 14 + o * 5)
        ∙ ap (λ n. take n (drop p file)) (omega arith)

    bodies_again : (p : ℕ) (es : List Entry) → p + sum_by body_size es ≡ length file → wrong_in term file p es ≡ None → flat_map (body_of guard term) (tables_in guard term file p es) ≡ drop p file
    bodies_again p [] h ok = sym (drop_all p file (omega arith))
    bodies_again p (e ∷ es) h ok =
        let n = sum_by-cons body_size e es in
        let both = or_none (wrong_from term (p + to_outputs_lem e) e.outputs (drop (p + to_outputs_lem e) file)) (wrong_in term file (p + body_size e) es) ok in
        ap (λ l. l ++ flat_map (body_of guard term) (tables_in guard term file (p + body_size e) es)) (body_again p e (omega arith) both.0)
        ∙ ap (λ l. take (body_size e) (drop p file) ++ l) (bodies_again (p + body_size e) es (omega arith) both.1 ∙ sym (drop-drop (body_size e) p file))
        ∙ take-append-drop (body_size e) (drop p file)

    -- the bytes of the tables that a file means are the file
    pub bytes_again : (k : ℕ) → checked_file term file k ≡ Ok tt → bytes_of guard term k (tables_in guard term file (bodies_at file) (contents file)) ≡ file
    bytes_again k ok =
        let P = passes term file k ok in
        let n = at file 1 in
        let es = contents file in
        let Fs = tables_in guard term file (bodies_at file) es in
        let size : length (drop 2 file) ≡ length file - 2 = length-drop 2 file in
        let counts = records_again entry_code entry_exact n 0 (drop 2 file) (omega (arith, P.starts)) (dropped 2) (free_all entry_code (λ bs. refl) n 0 (drop 2 file)) in
        let front : image_all entry_code (map counts_of Fs) ≡ take (n * 6) (drop 2 file) = ap (image_all entry_code) (all_counts file (bodies_at file) es) ∙ counts in
        let bodies : flat_map (body_of guard term) Fs ≡ drop (n * 6) (drop 2 file)
        = bodies_again (bodies_at file) es P.size P.clean ∙ sym (drop-drop (n * 6) 2 file) in
        let number : length Fs ≡ n = tables_number file (bodies_at file) es ∙ records_length entry_code n (drop 2 file) in
        ap (λ x. x ∷ length Fs ∷ (image_all entry_code (map counts_of Fs) ++ flat_map (body_of guard term) Fs)) (sym P.alphabet)
        ∙ ap (λ x. at file 0 ∷ x ∷ (image_all entry_code (map counts_of Fs) ++ flat_map (body_of guard term) Fs)) number
        ∙ ap (λ l. at file 0 ∷ n ∷ (l ++ flat_map (body_of guard term) Fs)) front
        ∙ ap (λ l. at file 0 ∷ n ∷ (take (n * 6) (drop 2 file) ++ l)) bodies
        ∙ ap (λ l. at file 0 ∷ n ∷ l) (take-append-drop (n * 6) (drop 2 file))
        ∙ ap (λ l. at file 0 ∷ l) (sym (drop_more file 1 0 (omega (arith, P.long))))
        ∙ sym (drop_more file 0 0 (omega (arith, P.long)))
