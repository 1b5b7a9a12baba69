-- One turn of decoding, and what opening a file tells of its meaning.
use Rattle.std.proofs.Common.{◌≡◌, ℕ, ◌+◌, ◌<◌, ◌≤◌, true, List, length, get_or, take, Some, Ok, Err, Result, sym, refl, ap, ◌∙◌, arith}
use Rattle.std.proofs.lemmas.List.{length-take-le}
use Rattle.table.specs.Table.{Table}
use Rattle.holdings.specs.declared.memory.Entry.{Entry}
use Rattle.holdings.specs.declared.memory.Head.{Head}
use Rattle.holdings.specs.Memory.{Memory, states_of_lem, rules_of, outputs_of_lem, fits}
use Rattle.holdings.specs.Append.{appended}
use Rattle.codec_laws.specs.Code.{Code, Exact, Free}
use Rattle.codec_laws.specs.Numbers.{at}
use Rattle.stored_laws.specs.declared.StoredFault.{StoredFault}
use Rattle.stored_laws.specs.Format.{counts_of, then, contents, bodies_at, checked_file, parsed}
use Rattle.stored_laws.specs.Shelved.{head_of, room_of, tables_of, shelved}
use Rattle.stored_laws.proofs.Again.{passes, tables_number}
use Rattle.stored_laws.proofs.Rounds.{shelved_tables, shelved_fits}
use Rattle.stored_laws.proofs.Shelves.{Room, room_is, same_head, total_states, total_rules, total_outputs, tables_at, room_ledger, room_states, room_rules, room_outputs, shelved_next}
use Rattle.reader.specs.declared.body.Body.{Body}
use Rattle.reader.specs.Parts.{whole, parts_of}
use Rattle.reader.proofs.Stands.{contents_number, is_whole}
use Rattle.stored.specs.Bodies.{body_table, tables_of_file}
use Rattle.reader.proofs.Shown.{parts, there}
use Rattle.stored.proofs.Handed.{body_counts, table_there}

module _ {G T : Type 0} (guard : Code G) (term : Code T) (five : term.width ≡ 5) (file : List ℕ) (ok : whole file ≡ true) where
  pub number : length (tables_of_file guard term file) ≡ at file 1
  number = tables_number guard term file (bodies_at file) (contents file) ∙ contents_number file

  module _ (i : ℕ) (b : Body) (e : Some (parts b) ≡ parts_of file i) where
    within : i < length (tables_of_file guard term file)
    within = let t = there file ok i b e in omega (arith, number)

    is : body_table guard term b ≡ get_or (tables_of_file guard term file) i (body_table guard term b)
    is =
        let t = there file ok i b e in
        table_there file ok i b e guard term five
        ∙ sym (tables_at guard term file (bodies_at file) (contents file) i (record { states = 0; rules = 0; outputs = 0 }) (body_table guard term b) (omega (arith, contents_number file)))

    module _ (M N : Memory G T) (room : room_of M (tables_of_file guard term file) ≡ Ok tt) (same : N ≡ shelved M (take i (tables_of_file guard term file))) where
      held : Room M (head_of (tables_of_file guard term file))
      held = room_is M (head_of (tables_of_file guard term file)) room

      counts : counts_of (body_table guard term b) ≡ b.counts
      counts = body_counts guard term b

      holdings_are : N.head.holdings ≡ i
      holdings_are = ap (λ (m : Memory G T). m.head.holdings) same ∙ length-take-le i (tables_of_file guard term file) (omega (arith, within))

      pub has_ledger : N.head.holdings < length N.ledger
      has_ledger =
          let l = ap (λ (m : Memory G T). length m.ledger) same in
          omega (arith, holdings_are, room_ledger M (tables_of_file guard term file) held i (body_table guard term b) within is)

      pub has_states : N.head.states + b.counts.states ≤ length N.states
      has_states =
          let l = ap (λ (m : Memory G T). length m.states) same in
          let h = ap (λ (m : Memory G T). m.head.states) same in
          let n = ap (λ (x : Entry). x.states) counts in
          omega (arith, room_states M (tables_of_file guard term file) held i (body_table guard term b) within is)

      pub has_rules : N.head.rules + b.counts.rules ≤ length N.rules
      has_rules =
          let l = ap (λ (m : Memory G T). length m.rules) same in
          let h = ap (λ (m : Memory G T). m.head.rules) same in
          let n = ap (λ (x : Entry). x.rules) counts in
          omega (arith, room_rules M (tables_of_file guard term file) held i (body_table guard term b) within is)

      pub has_outputs : N.head.outputs + b.counts.outputs ≤ length N.outputs
      has_outputs =
          let l = ap (λ (m : Memory G T). length m.outputs) same in
          let h = ap (λ (m : Memory G T). m.head.outputs) same in
          let n = ap (λ (x : Entry). x.outputs) counts in
          omega (arith, room_outputs M (tables_of_file guard term file) held i (body_table guard term b) within is)

      pub next_is : appended N (body_table guard term b) ≡ shelved M (take (i + 1) (tables_of_file guard term file))
      next_is = ap (λ (m : Memory G T). appended m (body_table guard term b)) same ∙ shelved_next M (tables_of_file guard term file) held i (body_table guard term b) within is

  -- the head that the contents count is that of the tables
  pub head_is : (h : Head) → h.holdings ≡ at file 1 → h.states ≡ states_of_lem (contents file) → h.rules ≡ rules_of (contents file) → h.outputs ≡ outputs_of_lem (contents file) → h ≡ head_of (tables_of_file guard term file)
  head_is h n s r o =
      same_head h (head_of (tables_of_file guard term file)) (n ∙ sym number) (s ∙ sym (total_states guard term file (bodies_at file) (contents file))) (r ∙ sym (total_rules guard term file (bodies_at file) (contents file))) (o ∙ sym (total_outputs guard term file (bodies_at file) (contents file)))

-- a file that could be opened, and one that could not
pub opened_ok : (c : Result Unit StoredFault) (x file : List ℕ) → Ok x ≡ then c (Ok file) → (c ≡ Ok tt) × (x ≡ file)
opened_ok (Ok tt) x file e = (refl, grind arith)
opened_ok (Err f) x file e = absurd (grind arith)

pub ok_same : {X : Type 0} (x y : X) → ◌≡◌ {A = Result X StoredFault} (Ok x) (Ok y) → x ≡ y
ok_same x y e = cc

-- what a file that could be opened means
module _ {G T : Type 0} (guard : Code G) (term : Code T) (k : ℕ) (file x : List ℕ) (e : Ok x ≡ then (checked_file term file k) (Ok file)) where
  pub checked_ok : checked_file term file k ≡ Ok tt
  checked_ok = (opened_ok (checked_file term file k) x file e).0

  pub same_file : x ≡ file
  same_file = (opened_ok (checked_file term file k) x file e).1

  pub read_whole : whole x ≡ true
  read_whole =
      let P = passes term file k checked_ok in
      ap whole same_file ∙ is_whole term file k P.long P.alphabet P.few P.starts P.size

  pub read_parsed : parsed guard term k file ≡ Ok (tables_of_file guard term x)
  read_parsed = ap (λ r. then r (Ok (tables_of_file guard term file))) checked_ok ∙ ap (λ f. Ok (tables_of_file guard term f)) (sym same_file)

-- what a decoded file left on the shelf
module _ {G T : Type 0} (guard : Code G) (term : Code T) (guards : Exact guard) (wide : guard.width ≡ 8) (free : Free guard) (terms : Exact term) (five : term.width ≡ 5) (k : ℕ) (file x : List ℕ) (e : Ok x ≡ then (checked_file term file k) (Ok file)) (M N : Memory G T) (room : room_of M (tables_of_file guard term x) ≡ Ok tt) (left : N ≡ shelved M (tables_of_file guard term x)) where
  pub decoded_tables : (Fs : List (Table G T)) → parsed guard term k file ≡ Ok Fs → tables_of N ≡ Fs
  decoded_tables Fs p =
      let same : tables_of_file guard term x ≡ Fs = ok_same (tables_of_file guard term x) Fs (sym (read_parsed guard term k file x e) ∙ p) in
      ap tables_of left ∙ shelved_tables M (tables_of_file guard term x) room ∙ same

  pub decoded_fits : fits N ≡ true
  decoded_fits =
      let P = passes term file k (checked_ok guard term k file x e) in
      let n = number guard term five x (read_whole guard term k file x e) ∙ ap (λ f. at f 1) (same_file guard term k file x e) in
      ap fits left ∙ shelved_fits M (tables_of_file guard term x) room (omega (arith, P.few))
