-- Round trips: a sound shelf written and read, a file read and written, tables put on a shelf and found there.
use Rattle.std.proofs.Common.{◌≡◌, ℕ, zero, suc, ◌+◌, ◌<◌, ◌≤◌, true, List, [], ◌∷◌, ◌++◌, map, length, get_or, take, drop, Ok, Err, sum_by, Result, sym, refl, ap, ◌∙◌, arith}
use Rattle.std.specs.List.{flat_map}
use Rattle.std.proofs.ByRecursion.{All-weaker}
use Rattle.std.proofs.lemmas.List.{append_assoc, drop_at, length-append, length-map, length-take-le, take_at}
use Rattle.std.proofs.lemmas.List.Sums.{sum_by-cons}
use Rattle.std.proofs.lemmas.Bool.Decides.{nat_tests}
use Rattle.alphabet.specs.Model.{Model, SoundGuard, SoundTerm}
use Rattle.table.specs.declared.entries.State.{State}
use Rattle.table.specs.declared.entries.Rule.{Rule}
use Rattle.table.specs.Table.{Table, stretch}
use Rattle.holdings.specs.declared.memory.Entry.{Entry}
use Rattle.holdings.specs.Memory.{Memory, in_use, states_of_lem, rules_of, outputs_of_lem, fits, holding}
use Rattle.holdings.specs.Check.{checked_shelf}
use Rattle.holdings.proofs.Parts.{fitting}
use Rattle.codec_laws.specs.Code.{Code, Bytes, Exact, Free}
use Rattle.codec_laws.specs.Entries.{entry_code, state_code, rule_code}
use Rattle.codec_laws.proofs.Overs.{length_over}
use Rattle.stored_laws.specs.declared.StoredFault.{StoredFault}
use Rattle.stored_laws.specs.Format.{counts_of, then, contents, bodies_at, checked_file, bytes_of, tables_in, parsed}
use Rattle.stored_laws.specs.Shelved.{all_states, all_rules, all_outputs, head_of, room_of, tables_from, tables_of, shelved}
use Rattle.stored_laws.proofs.Back.{Fit, parsed_back, same_table}
use Rattle.stored_laws.proofs.Again.{bytes_again}
use Rattle.stored_laws.proofs.Shelves.{Room, room_is}
use Rattle.stored_laws.proofs.Safe.{Safe, SafeRule, fits_ok, shelf_safe, tables_from_number}

module _ {G T : Type 0} (guard : Code G) (term : Code T) (guards : Exact guard) (wide : guard.width ≡ 8) (free : Free guard) (terms : Exact term) (five : term.width ≡ 5) where
  module _ (m : Model G T) (gs : (g : G) → SoundGuard m g → guard.fits g ≡ true) (ts : (t : T) → SoundTerm m t → term.fits t ≡ true) where
    rule_fits : (r : Rule G) → SafeRule m r → (rule_code guard).fits r ≡ true
    rule_fits r safe =
        let p = safe.0 in
        let q = safe.1 in
        let o = safe.2 in
        let g = gs r.guard safe.3 in
        grind (arith, nat_tests)

    state_fits : (s : State) → s.finals ≤ 32 → state_code.fits s ≡ true
    state_fits s h = grind (arith, nat_tests)

    counts_fit : (F : Table G T) → Safe m F → entry_code.fits (counts_of F) ≡ true
    counts_fit F safe =
        let s = safe.few_states in
        let r = safe.few_rules in
        let o = safe.few_outputs in
        grind (arith, nat_tests)

    fit : (F : Table G T) → Safe m F → Fit guard term guards wide free terms five F
    fit F safe = record {
      counts = counts_fit F safe;
      states = All-weaker (λ (s : State). s.finals ≤ 32) (λ (s : State). state_code.fits s ≡ true) state_fits F.states safe.states;
      rules = All-weaker (SafeRule m) (λ (r : Rule G). (rule_code guard).fits r ≡ true) rule_fits F.rules safe.rules;
      outputs = All-weaker (SoundTerm m) (λ (t : T). term.fits t ≡ true) ts F.outputs safe.outputs;
    }

    -- a sound shelf, written and read, is the same
    pub shelf_back : (k : ℕ) (M : Memory G T) → checked_shelf m M ≡ Ok tt → parsed guard term k (bytes_of guard term k (tables_of M)) ≡ Ok (tables_of M)
    shelf_back k M sound =
        let W = fitting M (fits_ok m M sound) in
        let n = tables_from_number M 0 (in_use M) ∙ length-take-le M.head.holdings M.ledger W.long in
        parsed_back guard term guards wide free terms five k (tables_of M) (omega (arith, W.few)) (All-weaker (Safe m) (Fit guard term guards wide free terms five) fit (tables_of M) (shelf_safe m M sound))

  then_ok : {X : Type 0} (c : Result Unit StoredFault) (x y : X) → then c (Ok x) ≡ Ok y → (c ≡ Ok tt) × (x ≡ y)
  then_ok (Ok tt) x y e = (refl, grind arith)
  then_ok (Err f) x y e = absurd (grind arith)

  -- a file, read and written, is the same
  pub file_again : (k : ℕ) (file : List ℕ) (Fs : List (Table G T)) → Bytes file → parsed guard term k file ≡ Ok Fs → bytes_of guard term k Fs ≡ file
  file_again k file Fs bytes e =
      let both = then_ok (checked_file term file k) (tables_in guard term file (bodies_at file) (contents file)) Fs e in
      ap (bytes_of guard term k) (sym both.1) ∙ bytes_again guard term guards wide free terms five file bytes k both.0

-- tables put on a shelf are its holdings
module _ {G T : Type 0} where
  module _ {Y : Type 0} (f : Table G T → List Y) (count : Entry → ℕ) (same : (F : Table G T) → count (counts_of F) ≡ length (f F)) where
    stretch_joined : (Fs : List (Table G T)) (i : ℕ) (d : Table G T) (rest : List Y) → i < length Fs → stretch count (map counts_of Fs) i (flat_map f Fs ++ rest) ≡ f (get_or Fs i d)
    stretch_joined [] i d rest h = absurd (omega arith)
    stretch_joined (F ∷ Fs) zero d rest h =
        ap (take (count (counts_of F))) (append_assoc (f F) (flat_map f Fs) rest) ∙ take_at (f F) (flat_map f Fs ++ rest) (count (counts_of F)) (sym (same F))
    stretch_joined (F ∷ Fs) (suc i) d rest h =
        ap (stretch count (map counts_of Fs) i) (ap (drop (count (counts_of F))) (append_assoc (f F) (flat_map f Fs) rest) ∙ drop_at (f F) (flat_map f Fs ++ rest) (count (counts_of F)) (sym (same F)))
        ∙ stretch_joined Fs i d rest (omega arith)

    total_joined : (Fs : List (Table G T)) → sum_by count (map counts_of Fs) ≡ length (flat_map f Fs)
    total_joined [] = refl
    total_joined (F ∷ Fs) = omega (arith, sum_by-cons count (counts_of F) (map counts_of Fs), same F, total_joined Fs, length-append (f F) (flat_map f Fs))

  module _ (M : Memory G T) (Fs : List (Table G T)) (room : room_of M Fs ≡ Ok tt) where
    held : Room M (head_of Fs)
    held = room_is M (head_of Fs) room

    counted : length (map counts_of Fs) ≡ length Fs
    counted = length-map Fs (counts_of {G = G} {T = T})

    ledger_is : in_use (shelved M Fs) ≡ map counts_of Fs
    ledger_is = take_at (map counts_of Fs) _ (length Fs) counted

    blank : Table G T
    blank = record { states = []; rules = []; outputs = [] }

    holding_is : (i : ℕ) → i < length Fs → holding (shelved M Fs) i ≡ get_or Fs i blank
    holding_is i h =
        let N = shelved M Fs in
        let s = ap (λ l. stretch (λ (e : Entry). e.states) l i N.states) ledger_is ∙ stretch_joined (λ (A : Table G T). A.states) (λ (e : Entry). e.states) (λ F. refl) Fs i blank _ h in
        let r = ap (λ l. stretch (λ (e : Entry). e.rules) l i N.rules) ledger_is ∙ stretch_joined (λ (A : Table G T). A.rules) (λ (e : Entry). e.rules) (λ F. refl) Fs i blank _ h in
        let o = ap (λ l. stretch (λ (e : Entry). e.outputs) l i N.outputs) ledger_is ∙ stretch_joined (λ (A : Table G T). A.outputs) (λ (e : Entry). e.outputs) (λ F. refl) Fs i blank _ h in
        same_table (holding N i) (get_or Fs i blank) s r o

    tables_are : (i : ℕ) (Gs : List (Table G T)) (es : List Entry) → length es ≡ length Gs → ((j : ℕ) → j < length Gs → holding (shelved M Fs) (i + j) ≡ get_or Gs j blank) → tables_from (shelved M Fs) i es ≡ Gs
    tables_are i [] [] n at = refl
    tables_are i [] (e ∷ es) n at = absurd (omega arith)
    tables_are i (A ∷ Gs) [] n at = absurd (omega arith)
    tables_are i (A ∷ Gs) (e ∷ es) n at =
        let z : i + 0 ≡ i = omega arith in
        let first : holding (shelved M Fs) i ≡ A = ap (holding (shelved M Fs)) (sym z) ∙ at 0 (omega arith) in
        let next : (j : ℕ) → j < length Gs → holding (shelved M Fs) ((i + 1) + j) ≡ get_or Gs j blank
        = λ j h. let s : (i + 1) + j ≡ i + suc j = omega arith in ap (holding (shelved M Fs)) s ∙ at (suc j) (omega arith) in
        ap (λ (x : Table G T). x ∷ tables_from (shelved M Fs) (i + 1) es) first ∙ ap (λ l. A ∷ l) (tables_are (i + 1) Gs es (omega arith) next)

    pub shelved_tables : tables_of (shelved M Fs) ≡ Fs
    shelved_tables =
        tables_are 0 Fs (in_use (shelved M Fs)) (ap length ledger_is ∙ counted) (λ j h. let z : 0 + j ≡ j = omega arith in ap (holding (shelved M Fs)) z ∙ holding_is j h)

    pub shelved_fits : length Fs ≤ 16 → fits (shelved M Fs) ≡ true
    shelved_fits few =
        let H = held in
        let s = ap states_of_lem ledger_is ∙ total_joined (λ (A : Table G T). A.states) (λ (e : Entry). e.states) (λ F. refl) Fs in
        let r = ap rules_of ledger_is ∙ total_joined (λ (A : Table G T). A.rules) (λ (e : Entry). e.rules) (λ F. refl) Fs in
        let o = ap outputs_of_lem ledger_is ∙ total_joined (λ (A : Table G T). A.outputs) (λ (e : Entry). e.outputs) (λ F. refl) Fs in
        let l = length_over M.ledger 0 (map counts_of Fs) (omega (arith, counted, H.ledger)) in
        let ls = length_over M.states 0 (all_states Fs) (omega (arith, H.states)) in
        let lr = length_over M.rules 0 (all_rules Fs) (omega (arith, H.rules)) in
        let lo = length_over M.outputs 0 (all_outputs Fs) (omega (arith, H.outputs)) in
        let n : length Fs ≤ length (shelved M Fs).ledger = omega (arith, H.ledger) in
        let ns : length (all_states Fs) ≤ length (shelved M Fs).states = omega (arith, H.states) in
        let nr : length (all_rules Fs) ≤ length (shelved M Fs).rules = omega (arith, H.rules) in
        let no' : length (all_outputs Fs) ≤ length (shelved M Fs).outputs = omega (arith, H.outputs) in
        grind (arith, nat_tests)
