-- What the bodies that a reader hands out say.
use Rattle.std.proofs.Common.{◌≡◌, ℕ, zero, suc, ◌+◌, ◌*◌, true, List, ◌∷◌, length, take, drop, Some, sym, refl, ap, ◌∙◌, suc-mul, arith, length-drop}
use Rattle.std.proofs.lemmas.List.{drop-take, length-take-le, take-take}
use Rattle.holdings.specs.declared.memory.Entry.{Entry}
use Rattle.reader.specs.declared.body.Body.{Body}
use Rattle.reader.specs.Parts.{Parts, whole, counts_at_lem, body_at, parts_of}
use Rattle.reader.proofs.Shown.{parts, both, there, counts_there}
use Rattle.reader.proofs.Stands.{whole_is, body_inside}
use Rattle.codec_laws.specs.Code.{Code}
use Rattle.codec_laws.specs.Entries.{state_code, rule_code}
use Rattle.codec_laws.specs.Lists.{records}
use Rattle.codec_laws.proofs.Laws.{cong3}
use Rattle.codec_laws.proofs.Lists.{records_length}
use Rattle.stored_laws.specs.Format.{counts_of, to_rules, to_outputs_lem, table_in}
use Rattle.stored_laws.proofs.Back.{same_table}
use Rattle.stored.specs.Bodies.{body_table, Full}

-- records take no more bytes than they need
records_take : {X : Type 0} (c : Code X) (n : ℕ) (bs : List ℕ) → records c n (take (n * c.width) bs) ≡ records c n bs
records_take c zero bs = refl
records_take c (suc n) bs =
    let w = c.width in
    let e : suc n * w ≡ w + n * w = omega (arith, suc-mul n w) in
    ap (λ m. records c (suc n) (take m bs)) e
    ∙ ap (λ l. c.meaning l ∷ records c n (drop w (take (w + n * w) bs))) (take-take w (w + n * w) bs (omega arith))
    ∙ ap (λ l. c.meaning (take w bs) ∷ records c n l) (drop-take w (n * w) bs)
    ∙ ap (λ l. c.meaning (take w bs) ∷ l) (records_take c n (drop w bs))

-- the counts of a body's table are the body's
pub body_counts : {G T : Type 0} (guard : Code G) (term : Code T) (b : Body) → counts_of (body_table guard term b) ≡ b.counts
body_counts guard term b =
    let entry : ℕ → ℕ → ℕ → Entry = λ s r o. record { states = s; rules = r; outputs = o } in
    cong3 entry (records_length state_code b.counts.states b.states.bytes.now) (records_length (rule_code guard) b.counts.rules b.rules.bytes.now) (records_length term b.counts.outputs b.outputs.bytes.now)

module _ (file : List ℕ) (ok : whole file ≡ true) (i : ℕ) (b : Body) (e : Some (parts b) ≡ parts_of file i) where
  states_there : b.states.bytes.now ≡ take ((counts_at_lem file i).states * 3) (drop (body_at file i) file)
  states_there = ap (λ (p : Parts). p.states.bytes) (both file ok i b e).1

  rules_there : b.rules.bytes.now ≡ take ((counts_at_lem file i).rules * 14) (drop (body_at file i + to_rules (counts_at_lem file i)) file)
  rules_there = ap (λ (p : Parts). p.rules.bytes) (both file ok i b e).1

  outputs_there : b.outputs.bytes.now ≡ take ((counts_at_lem file i).outputs * 5) (drop (body_at file i + to_outputs_lem (counts_at_lem file i)) file)
  outputs_there = ap (λ (p : Parts). p.outputs.bytes) (both file ok i b e).1

  pub full : Full b
  full =
      let W = whole_is file ok in
      let same = counts_there file ok i b e in
      let h = body_inside file i (there file ok i b e) in
      let n = counts_at_lem file i in
      let p = body_at file i in (
        ap length states_there ∙ length-take-le (n.states * 3) (drop p file) (omega (arith, length-drop p file)) ∙ ap (λ (x : Entry). x.states * 3) (sym same),
        ap length rules_there ∙ length-take-le (n.rules * 14) (drop (p + to_rules n) file) (omega (arith, length-drop (p + to_rules n) file)) ∙ ap (λ (x : Entry). x.rules * 14) (sym same),
        ap length outputs_there ∙ length-take-le (n.outputs * 5) (drop (p + to_outputs_lem n) file) (omega (arith, length-drop (p + to_outputs_lem n) file)) ∙ ap (λ (x : Entry). x.outputs * 5) (sym same),
      )

  pub table_there : {G T : Type 0} (guard : Code G) (term : Code T) → term.width ≡ 5 → body_table guard term b ≡ table_in guard term file (body_at file i) (counts_at_lem file i)
  table_there guard term five =
      let same = counts_there file ok i b e in
      let n = counts_at_lem file i in
      let p = body_at file i in
      let w : n.outputs * 5 ≡ n.outputs * term.width = ap (λ k. n.outputs * k) (sym five) in
      let s = ap (λ (x : Entry). records state_code x.states b.states.bytes.now) same ∙ ap (records state_code n.states) states_there ∙ records_take state_code n.states (drop p file) in
      let r = ap (λ (x : Entry). records (rule_code guard) x.rules b.rules.bytes.now) same ∙ ap (records (rule_code guard) n.rules) rules_there ∙ records_take (rule_code guard) n.rules (drop (p + to_rules n) file) in
      let o = ap (λ (x : Entry). records term x.outputs b.outputs.bytes.now) same
      ∙ ap (records term n.outputs) (outputs_there ∙ ap (λ k. take k (drop (p + to_outputs_lem n) file)) w)
      ∙ records_take term n.outputs (drop (p + to_outputs_lem n) file) in
      same_table (body_table guard term b) (table_in guard term file p n) s r o
