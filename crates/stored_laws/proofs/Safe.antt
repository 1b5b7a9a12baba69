-- The tables of a sound shelf: small, made of sound guards and terms, and with the counts of the ledger.
use Rattle.std.proofs.Common.{◌≡◌, ℕ, suc, ◌+◌, ◌*◌, ◌<◌, ◌≤◌, Bool, true, ◌&&◌, eqb, ltb, leb, List, [], ◌∷◌, map, length, take, drop, is_some, Some, Ok, Err, sum_by, Result, sym, refl, ap, ◌∙◌, subst, suc-mul, arith, length-drop, eqb-true}
use Rattle.std.specs.List.{slice_get, AllByRecursion}
use Rattle.std.proofs.ByRecursion.{All-append}
use Rattle.std.proofs.lemmas.List.{length-take-le, nil_from_length, take-append-drop}
use Rattle.std.proofs.lemmas.List.Sums.{sum_by-cons}
use Rattle.std.proofs.lemmas.Bool.Decides.{nat_tests}
use Rattle.alphabet.specs.declared.cause.Cause.{Cause}
use Rattle.alphabet.specs.declared.cause.Cause.TheVariants.{NotSuiting}
use Rattle.alphabet.specs.Model.{Model, SoundGuard, SoundTerm}
use Rattle.alphabet.specs.Questions.{suits, constant_of}
use Rattle.table.specs.declared.entries.State.{State}
use Rattle.table.specs.declared.entries.Rule.{Rule}
use Rattle.table.specs.declared.fault.TableFault.{TableFault}
use Rattle.table.specs.declared.fault.TableFault.TheVariants.{MissingState, UnsoundGuard, LongOutput, OutputCount, NotConstant, UnsoundOutput}
use Rattle.table.specs.Results.{map_err}
use Rattle.table.specs.Table.{Table, stretch, final_total_of, rule_total_of, all_rule_outputs}
use Rattle.table.specs.Check.{Checked, next, unless, each, limits_of, check_state_lem, check_rule_lem, check_final_lem, check_output_lem, check_rule_outputs_lem, check_overlaps_lem, checked}
use Rattle.filter.proofs.Finals.{stretch_is}
use Rattle.filter.proofs.Finds.{total_upto}
use Rattle.holdings.specs.declared.memory.Entry.{Entry}
use Rattle.answers.specs.declared.fault.Fault.{Fault}
use Rattle.answers.specs.declared.fault.Fault.TheVariants.{Unsound}
use Rattle.holdings.specs.Memory.{Memory, in_use, states_of_lem, rules_of, outputs_of_lem, fits, holding}
use Rattle.holdings.specs.Check.{next as later, check_from, checked_shelf}
use Rattle.holdings.proofs.Parts.{fitting}
use Rattle.codec_laws.proofs.Laws.{cong3}
use Rattle.stored_laws.specs.Format.{counts_of, body_size}
use Rattle.stored_laws.specs.Shelved.{tables_from, tables_of}

first_ok : (a b : Checked) → next a b ≡ Ok tt → a ≡ Ok tt
first_ok (Ok x) b e = refl
first_ok (Err f) b e = grind arith

second_ok : (a b : Checked) → next a b ≡ Ok tt → b ≡ Ok tt
second_ok (Ok x) b e = e
second_ok (Err f) b e = grind arith

unless_ok : (b : Bool) (f : TableFault) → unless b f ≡ Ok tt → b ≡ true
unless_ok b f e = grind (arith, nat_tests)

map_ok : (f : Cause → TableFault) (o : Result Unit Cause) → map_err f o ≡ Ok tt → o ≡ Ok tt
map_ok f (Ok x) e = refl
map_ok f (Err c) e = grind arith

each_ok : {X : Type 0} (P : X → Type 0) (f : ℕ → X → Checked) → ((k : ℕ) (x : X) → f k x ≡ Ok tt → P x) → (k : ℕ) (xs : List X) → each f k xs ≡ Ok tt → AllByRecursion P xs
each_ok P f one k [] e = tt
each_ok P f one k (x ∷ xs) e = (one k x (first_ok (f k x) (each f (k + 1) xs) e), each_ok P f one (k + 1) xs (second_ok (f k x) (each f (k + 1) xs) e))

module _ {G T : Type 0} (m : Model G T) where
  -- a rule's numbers are small, and its guard is sound
  abbrev pub SafeRule : Rule G → Type 0
  SafeRule r = (r.state < 64) × (r.next < 64) × (r.outputs ≤ 32) × SoundGuard m r.guard

  pub record Safe (F : Table G T) : Type 0 where
    pub few_states : length F.states ≤ 64
    pub few_rules : length F.rules ≤ 1024
    pub few_outputs : length F.outputs ≤ 4096
    pub states : AllByRecursion (λ (s : State). s.finals ≤ 32) F.states
    pub rules : AllByRecursion SafeRule F.rules
    pub outputs : AllByRecursion (SoundTerm m) F.outputs

  state_safe : (k : ℕ) (s : State) → check_state_lem k s ≡ Ok tt → s.finals ≤ 32
  state_safe k s e = grind (arith, nat_tests)

  small_rule : {P : Type 0} (p q o n : ℕ) → n ≤ 64 → (ltb p n && ltb q n) ≡ true → leb o 32 ≡ true → P → (p < 64) × (q < 64) × (o ≤ 32) × P
  small_rule p q o n small a b x =
      let s : p < n = grind (arith, nat_tests) in
      let t : q < n = grind (arith, nat_tests) in
      (omega arith, omega arith, grind (arith, nat_tests), x)

  rule_safe : (n : ℕ) → n ≤ 64 → (k : ℕ) (r : Rule G) → check_rule_lem m n k r ≡ Ok tt → SafeRule r
  rule_safe n small k r e =
      let states : Checked = unless (ltb r.state n && ltb r.next n) (MissingState k) in
      let guard : Checked = map_err (UnsoundGuard k) (m.check_guard r.guard) in
      let count : Checked = unless (leb r.outputs 32) (LongOutput k) in
      let a = unless_ok (ltb r.state n && ltb r.next n) (MissingState k) (first_ok states (next guard count) e) in
      let b = second_ok states (next guard count) e in
      let g = map_ok (UnsoundGuard k) (m.check_guard r.guard) (first_ok guard count b) in
      let o = unless_ok (leb r.outputs 32) (LongOutput k) (second_ok guard count b) in
      small_rule r.state r.next r.outputs n small a o g

  final_safe : (k : ℕ) (t : T) → check_final_lem m k t ≡ Ok tt → SoundTerm m t
  final_safe k t e = map_ok (UnsoundOutput k) (m.check_term t) (first_ok (map_err (UnsoundOutput k) (m.check_term t)) (unless (is_some (constant_of m t)) (NotConstant k)) e)

  output_safe : (g : G) (k : ℕ) (t : T) → check_output_lem m g k t ≡ Ok tt → SoundTerm m t
  output_safe g k t e = map_ok (UnsoundOutput k) (m.check_term t) (first_ok (map_err (UnsoundOutput k) (m.check_term t)) (unless (suits m t g) (UnsoundOutput k NotSuiting)) e)

  whole_list : (P : T → Type 0) (n : ℕ) (ts : List T) → AllByRecursion P (take n ts) → AllByRecursion P (drop n ts) → AllByRecursion P ts
  whole_list P n ts a b = subst (λ l. AllByRecursion P l) (take-append-drop n ts) (All-append P (take n ts) (drop n ts) a b)

  rule_outputs_safe : (k : ℕ) (rs : List (Rule G)) (ts : List T) → length ts ≡ rule_total_of rs → check_rule_outputs_lem m k rs ts ≡ Ok tt → AllByRecursion (SoundTerm m) ts
  rule_outputs_safe k [] ts n e = subst (λ l. AllByRecursion (SoundTerm m) l) (sym (nil_from_length ts n)) tt
  rule_outputs_safe k (r ∷ rs) ts n e =
      let s = sum_by-cons (λ (r : Rule G). r.outputs) r rs in
      let one : Checked = each (check_output_lem m r.guard) k (take r.outputs ts) in
      let others : Checked = check_rule_outputs_lem m (k + r.outputs) rs (drop r.outputs ts) in
      let a = each_ok (SoundTerm m) (check_output_lem m r.guard) (output_safe r.guard) k (take r.outputs ts) (first_ok one others e) in
      let b = rule_outputs_safe (k + r.outputs) rs (drop r.outputs ts) (omega (arith, length-drop r.outputs ts)) (second_ok one others e) in
      whole_list (SoundTerm m) r.outputs ts a b

  few_of : (a b c : ℕ) → limits_of a b c ≡ Ok tt → (a ≤ 64) × (b ≤ 1024) × (c ≤ 4096)
  few_of a b c e = (grind (arith, nat_tests), grind (arith, nat_tests), grind (arith, nat_tests))

  pub safe : (F : Table G T) → checked m F ≡ Ok tt → Safe F
  safe F e0 =
      let finals = final_total_of F.states in
      let c0 : Checked = limits_of (length F.states) (length F.rules) (length F.outputs) in
      let c1 : Checked = each check_state_lem 0 F.states in
      let c2 : Checked = each (check_rule_lem m (length F.states)) 0 F.rules in
      let c3 : Checked = unless (eqb (length F.outputs) (finals + rule_total_of F.rules)) OutputCount in
      let c4 : Checked = each (check_final_lem m) 0 (take finals F.outputs) in
      let c5 : Checked = check_rule_outputs_lem m finals F.rules (all_rule_outputs F) in
      let c6 : Checked = check_overlaps_lem m 0 [] F.rules in
      let e1 = second_ok c0 (next c1 (next c2 (next c3 (next c4 (next c5 c6))))) e0 in
      let e2 = second_ok c1 (next c2 (next c3 (next c4 (next c5 c6)))) e1 in
      let e3 = second_ok c2 (next c3 (next c4 (next c5 c6))) e2 in
      let e4 = second_ok c3 (next c4 (next c5 c6)) e3 in
      let e5 = second_ok c4 (next c5 c6) e4 in
      let few = few_of (length F.states) (length F.rules) (length F.outputs) (first_ok c0 (next c1 (next c2 (next c3 (next c4 (next c5 c6))))) e0) in
      let sum = eqb-true (length F.outputs) (finals + rule_total_of F.rules) (unless_ok (eqb (length F.outputs) (finals + rule_total_of F.rules)) OutputCount (first_ok c3 (next c4 (next c5 c6)) e3)) in
      let a = each_ok (SoundTerm m) (check_final_lem m) final_safe 0 (take finals F.outputs) (first_ok c4 (next c5 c6) e4) in
      let b = rule_outputs_safe finals F.rules (all_rule_outputs F) (omega (arith, length-drop finals F.outputs)) (first_ok c5 c6 e5) in
      record {
        few_states = few.0;
        few_rules = few.1;
        few_outputs = few.2;
        states = each_ok (λ (s : State). s.finals ≤ 32) check_state_lem state_safe 0 F.states (first_ok c1 (next c2 (next c3 (next c4 (next c5 c6)))) e1);
        rules = each_ok SafeRule (check_rule_lem m (length F.states)) (rule_safe (length F.states) few.0) 0 F.rules (first_ok c2 (next c3 (next c4 (next c5 c6))) e2);
        outputs = whole_list (SoundTerm m) finals F.outputs a b;
      }

  module _ (M : Memory G T) where
    held_ok : (f : TableFault → Fault) (o : Checked) (r : Result Unit Fault) → later (map_err f o) r ≡ Ok tt → o ≡ Ok tt
    held_ok f (Ok x) r e = refl
    held_ok f (Err g) r e = grind arith

    others_ok : (o r : Result Unit Fault) → later o r ≡ Ok tt → r ≡ Ok tt
    others_ok (Ok x) r e = e
    others_ok (Err g) r e = grind arith

    all_safe : (i : ℕ) (es : List Entry) → check_from m M i es ≡ Ok tt → AllByRecursion Safe (tables_from M i es)
    all_safe i [] e = tt
    all_safe i (x ∷ es) e =
        (safe (holding M i) (held_ok (Unsound (i + 1)) (checked m (holding M i)) (check_from m M (i + 1) es) e), all_safe (i + 1) es (others_ok (map_err (Unsound (i + 1)) (checked m (holding M i))) (check_from m M (i + 1) es) e))

    pub fits_ok : checked_shelf m M ≡ Ok tt → fits M ≡ true
    fits_ok e = grind (arith, nat_tests)

    from_ok : checked_shelf m M ≡ Ok tt → check_from m M 0 (in_use M) ≡ Ok tt
    from_ok e = grind (arith, nat_tests)

    pub shelf_safe : checked_shelf m M ≡ Ok tt → AllByRecursion Safe (tables_of M)
    shelf_safe e = all_safe 0 (in_use M) (from_ok e)

module _ {G T : Type 0} (M : Memory G T) (ok : fits M ≡ true) where
  -- a holding is as long in each list as the ledger says
  stretch_size : {X : Type 0} (count : Entry → ℕ) (xs : List X) (i : ℕ) (e : Entry) → slice_get (in_use M) i ≡ Some e → sum_by count (in_use M) ≤ length xs → length (stretch count (in_use M) i xs) ≡ count e
  stretch_size count xs i e is h =
      let k = sum_by count (take i (in_use M)) in
      ap length (stretch_is count (in_use M) i e xs is)
      ∙ length-take-le (count e) (drop k xs) (omega (arith, total_upto count (in_use M) i e is, length-drop k xs))

  holding_counts : (i : ℕ) (e : Entry) → slice_get (in_use M) i ≡ Some e → counts_of (holding M i) ≡ e
  holding_counts i e is =
      let W = fitting M ok in
      let entry : ℕ → ℕ → ℕ → Entry = λ s r o. record { states = s; rules = r; outputs = o } in
      cong3 entry (stretch_size (λ (x : Entry). x.states) M.states i e is W.states) (stretch_size (λ (x : Entry). x.rules) M.rules i e is W.rules) (stretch_size (λ (x : Entry). x.outputs) M.outputs i e is W.outputs)

  counts_from : (i : ℕ) (es : List Entry) → ((j : ℕ) (x : Entry) → slice_get es j ≡ Some x → slice_get (in_use M) (i + j) ≡ Some x) → map counts_of (tables_from M i es) ≡ es
  counts_from i [] at = refl
  counts_from i (e ∷ es) at =
      let z : i + 0 ≡ i = omega arith in
      let here : slice_get (in_use M) i ≡ Some e = ap (slice_get (in_use M)) (sym z) ∙ at 0 e refl in
      let next : (j : ℕ) (x : Entry) → slice_get es j ≡ Some x → slice_get (in_use M) ((i + 1) + j) ≡ Some x
      = λ j x h. let s : (i + 1) + j ≡ i + suc j = omega arith in ap (slice_get (in_use M)) s ∙ at (suc j) x h in
      ap (λ (x : Entry). x ∷ map counts_of (tables_from M (i + 1) es)) (holding_counts i e here) ∙ ap (λ l. e ∷ l) (counts_from (i + 1) es next)

  -- the counts of the tables are the ledger
  pub ledger_counts : map counts_of (tables_of M) ≡ in_use M
  ledger_counts = counts_from 0 (in_use M) (λ j x h. let z : 0 + j ≡ j = omega arith in ap (slice_get (in_use M)) z ∙ h)

pub tables_from_number : {G T : Type 0} (M : Memory G T) (i : ℕ) (es : List Entry) → length (tables_from M i es) ≡ length es
tables_from_number M i [] = refl
tables_from_number M i (e ∷ es) = ap suc (tables_from_number M (i + 1) es)

-- the size of all bodies by the totals
pub sizes : (es : List Entry) → sum_by body_size es ≡ states_of_lem es * 3 + rules_of es * 14 + outputs_of_lem es * 5
sizes [] = refl
sizes (e ∷ es) =
    omega (arith, sum_by-cons body_size e es, sum_by-cons (λ (x : Entry). x.states) e es, sum_by-cons (λ (x : Entry). x.rules) e es, sum_by-cons (λ (x : Entry). x.outputs) e es, sizes es)

-- a few tables of a few entries have not many
pub few_in_all : {G T : Type 0} (count : Entry → ℕ) (most : ℕ) (Fs : List (Table G T)) → AllByRecursion (λ (F : Table G T). count (counts_of F) ≤ most) Fs → sum_by count (map counts_of Fs) ≤ length Fs * most
few_in_all count most [] all = omega arith
few_in_all count most (F ∷ Fs) all =
    omega (arith, sum_by-cons count (counts_of F) (map counts_of Fs), few_in_all count most Fs all.1, all.0, suc-mul (length Fs) most)
