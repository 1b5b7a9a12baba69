-- The entries of a file's contents, and where its bodies stand.
use Rattle.std.proofs.Common.{◌≡◌, ℕ, zero, suc, ◌+◌, ◌-◌, ◌*◌, ◌<◌, ◌≤◌, Bool, true, false, eqb, leb, List, ◌∷◌, length, get_or, take, drop, Some, None, Err, sum_by, Option, Result, sym, ap, ◌∙◌, suc-mul, arith, length-drop}
use Rattle.std.specs.List.{slice_get}
use Rattle.std.proofs.lemmas.List.{at_drop_all, at_drop_more, drop-drop, take_all, take_rest}
use Rattle.std.proofs.lemmas.Option.{slice_get-get_or}
use Rattle.std.proofs.lemmas.Bool.Decides.{nat_tests}
use Rattle.std.proofs.lemmas.List.Sums.{sum_by_more}
use Rattle.filter.proofs.Finds.{total_upto}
use Rattle.holdings.specs.declared.memory.Entry.{Entry}
use Rattle.codec_laws.specs.Code.{Code}
use Rattle.codec_laws.specs.Numbers.{at}
use Rattle.codec_laws.specs.Entries.{entry_code}
use Rattle.codec_laws.specs.Lists.{or_else, records, wrong_from}
use Rattle.codec_laws.proofs.Lists.{records_length}
use Rattle.stored_laws.specs.declared.StoredFault.{StoredFault}
use Rattle.stored_laws.specs.declared.StoredFault.TheVariants.{CutShort, OtherAlphabet, TooManyHoldings, LeftOver}
use Rattle.stored_laws.proofs.Back.{passed}
use Rattle.stored_laws.specs.Format.{to_outputs_lem, body_size, then, unless, none_wrong, contents, bodies_at, file_size, wrong_in, checked_file}
use Rattle.reader.specs.Parts.{counts_at_lem, body_at, whole}

-- one of the records
records_at : {X : Type 0} (c : Code X) (n i : ℕ) (bs : List ℕ) (d : X) → i < n → get_or (records c n bs) i d ≡ c.meaning (take c.width (drop (i * c.width) bs))
records_at c zero i bs d h = absurd (omega arith)
records_at c (suc n) zero bs d h = let z : 0 * c.width ≡ 0 = omega arith in ap (λ m. c.meaning (take c.width (drop m bs))) (sym z)
records_at c (suc n) (suc i) bs d h =
    let w = c.width in
    let e : w + i * w ≡ suc i * w = omega (arith, suc-mul i w) in
    records_at c n i (drop w bs) d (omega arith) ∙ ap (λ l. c.meaning (take w l)) (drop-drop (i * w) w bs ∙ ap (λ m. drop m bs) e)

module _ (file : List ℕ) where
  pub counts_are : (i p k : ℕ) → i < at file 1 → p ≡ 2 + i * 6 → k ≡ 6 → entry_code.meaning (take k (drop p file)) ≡ counts_at_lem file i
  counts_are i p k h e w =
      ap (λ m. entry_code.meaning (take m (drop p file))) w
      ∙ ap (λ m. entry_code.meaning (take 6 (drop m file))) e
      ∙ ap (λ l. entry_code.meaning (take 6 l)) (sym (drop-drop (i * 6) 2 file))
      ∙ sym (records_at entry_code (at file 1) i (drop 2 file) (record { states = 0; rules = 0; outputs = 0 }) h)

  pub body_next : (i : ℕ) → i < at file 1 → body_at file (i + 1) ≡ body_at file i + body_size (counts_at_lem file i)
  body_next i h =
      let n = records_length entry_code (at file 1) (drop 2 file) in
      let s = sum_by_more body_size (contents file) i (record { states = 0; rules = 0; outputs = 0 }) (omega arith) in
      omega arith

  pub contents_number : length (contents file) ≡ at file 1
  contents_number = records_length entry_code (at file 1) (drop 2 file)

  -- behind the last body the file should end
  pub end_is : body_at file (at file 1) ≡ file_size file
  end_is = ap (λ l. bodies_at file + sum_by body_size l) (take_all (at file 1) (contents file) (omega (arith, contents_number)))

  -- what it says that a file is whole
  pub record Whole : Type 0 where
    pub long : 2 ≤ length file
    pub few : at file 1 ≤ 16
    pub starts : bodies_at file ≤ length file
    pub size : file_size file ≡ length file

  pub whole_is : whole file ≡ true → Whole
  whole_is e = record { long = grind (arith, nat_tests); few = grind (arith, nat_tests); starts = grind (arith, nat_tests); size = grind (arith, nat_tests) }

  -- a body ends within the file
  pub body_inside : (i : ℕ) → i < at file 1 → body_at file i + body_size (counts_at_lem file i) ≤ file_size file
  body_inside i h =
      let n = contents_number in
      let e = counts_at_lem file i in
      let is : slice_get (contents file) i ≡ Some e = slice_get-get_or (contents file) i (record { states = 0; rules = 0; outputs = 0 }) (omega arith) in
      omega (arith, total_upto body_size (contents file) i e is)

  -- the wrong bytes from the body behind i others on: those of its outputs, then those behind it
  pub wrong_turn : {T : Type 0} (term : Code T) (p i : ℕ) (e : Entry) (o : Option ℕ) → i < at file 1 → e ≡ counts_at_lem file i → wrong_from term (p + to_outputs_lem e) e.outputs (drop (p + to_outputs_lem e) file) ≡ o → wrong_in term file p (drop i (contents file)) ≡ or_else o (wrong_in term file (p + body_size e) (drop (i + 1) (contents file)))
  wrong_turn term p i e o h is found =
      let n = contents_number in
      at_drop_more (wrong_in term file p) (contents file) i (record { states = 0; rules = 0; outputs = 0 }) (omega arith)
      ∙ ap (λ (x : Entry). wrong_in term file p (x ∷ drop (i + 1) (contents file))) (sym is)
      ∙ ap (λ q. or_else q (wrong_in term file (p + body_size e) (drop (i + 1) (contents file)))) found

  pub wrong_end : {T : Type 0} (term : Code T) (p i : ℕ) → at file 1 ≤ i → wrong_in term file p (drop i (contents file)) ≡ None
  wrong_end term p i h = at_drop_all (wrong_in term file p) (contents file) i (omega (arith, contents_number))

-- a test that is not passed
failed : {X : Type 0} (b : Bool) (f : StoredFault) (r : Result X StoredFault) → b ≡ false → then (unless b f) r ≡ Err f
failed b f r e = ap (λ x. then (unless x f) r) e

-- the rest behind the first two bytes
pub rest_size : (file : List ℕ) → length (take (length file - 2) (drop 2 file)) ≡ length file - 2
rest_size file = ap length (take_rest file 2) ∙ length-drop 2 file

module _ {T : Type 0} (term : Code T) (file : List ℕ) (k : ℕ) (long : 2 ≤ length file) (alphabet : at file 0 ≡ k) (few : at file 1 ≤ 16) (starts : bodies_at file ≤ length file) where
  -- where the contents are there, all goes by the length and the outputs
  sized : checked_file term file k ≡ then (unless (leb (file_size file) (length file)) (CutShort (length file))) (then (unless (leb (length file) (file_size file)) (LeftOver (file_size file))) (none_wrong (wrong_in term file (bodies_at file) (contents file))))
  sized =
      passed (leb 2 (length file)) (CutShort (length file)) _ (grind (arith, nat_tests))
      ∙ passed (eqb (at file 0) k) OtherAlphabet _ (grind (arith, nat_tests))
      ∙ passed (leb (at file 1) 16) TooManyHoldings _ (grind (arith, nat_tests))
      ∙ passed (leb (bodies_at file) (length file)) (CutShort (length file)) _ (grind (arith, nat_tests))

  pub cut_short : length file < file_size file → checked_file term file k ≡ Err (CutShort (length file))
  cut_short h = sized ∙ failed (leb (file_size file) (length file)) (CutShort (length file)) _ (grind (arith, nat_tests))

  pub left_over : file_size file < length file → checked_file term file k ≡ Err (LeftOver (file_size file))
  left_over h =
      sized
      ∙ passed (leb (file_size file) (length file)) (CutShort (length file)) _ (grind (arith, nat_tests))
      ∙ failed (leb (length file) (file_size file)) (LeftOver (file_size file)) _ (grind (arith, nat_tests))

  pub by_outputs : file_size file ≡ length file → checked_file term file k ≡ none_wrong (wrong_in term file (bodies_at file) (contents file))
  by_outputs h =
      sized
      ∙ passed (leb (file_size file) (length file)) (CutShort (length file)) _ (grind (arith, nat_tests))
      ∙ passed (leb (length file) (file_size file)) (LeftOver (file_size file)) _ (grind (arith, nat_tests))

  pub is_whole : file_size file ≡ length file → whole file ≡ true
  is_whole h = grind (arith, nat_tests)
