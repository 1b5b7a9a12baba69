-- The bytes of a shelf, as they are written piece by piece.
use Rattle.std.proofs.Common.{◌≡◌, ℕ, zero, suc, ◌+◌, ◌*◌, ◌<◌, ◌≤◌, true, false, cond, leb, List, [], ◌∷◌, ◌++◌, map, length, get_or, take, set, Ok, Err, sum_by, Result, sym, refl, ap, ◌∙◌, arith}
use Rattle.std.specs.List.{flat_map}
use Rattle.std.proofs.ByRecursion.{All-weaker}
use Rattle.std.proofs.lemmas.List.{append_assoc, length-append, length-map, length-take-le, take_all, take_at, take_more}
use Rattle.std.proofs.lemmas.Bool.Decides.{nat_tests}
use Rattle.alphabet.specs.Model.{Model}
use Rattle.table.specs.Results.{map_err}
use Rattle.table.specs.Table.{Table}
use Rattle.holdings.specs.declared.memory.Entry.{Entry}
use Rattle.holdings.specs.declared.memory.Head.{Head}
use Rattle.answers.specs.declared.fault.Fault.{Fault}
use Rattle.holdings.specs.Memory.{Memory, in_use, fits, holding}
use Rattle.holdings.specs.Check.{checked_shelf}
use Rattle.holdings.specs.Append.{over}
use Rattle.holdings.proofs.Parts.{fitting}
use Rattle.codec_laws.specs.Code.{Code, Exact, Free}
use Rattle.codec_laws.specs.Entries.{entry_code, state_code, rule_code}
use Rattle.codec_laws.specs.Lists.{image_all}
use Rattle.codec_laws.proofs.Laws.{entry_exact, state_exact, rule_exact}
use Rattle.codec_laws.proofs.Lists.{size_all}
use Rattle.codec_laws.proofs.Overs.{length_over, over_more, set_over}
use Rattle.stored_laws.specs.declared.StoredFault.{StoredFault}
use Rattle.stored_laws.specs.declared.StoredFault.TheVariants.{TooShort, Shelf}
use Rattle.stored_laws.specs.Format.{counts_of, body_size, then, body_of, bytes_of}
use Rattle.stored_laws.specs.Shelved.{tables_from, tables_of, shelf_bytes, encoded}
use Rattle.stored_laws.proofs.Back.{bodies_size}
use Rattle.stored_laws.proofs.Safe.{Safe, fits_ok, shelf_safe, ledger_counts, tables_from_number, sizes, few_in_all}
use Rattle.stored_laws.proofs.Shelves.{joined_push, prefix_size}

-- the first two bytes and the ledger
pub front_over : (out : List ℕ) (k n : ℕ) (es : List Entry) → 2 ≤ length out → over (set (set out 0 k) 1 n) 2 (image_all entry_code es) ≡ over out 0 (k ∷ n ∷ image_all entry_code es)
front_over out k n es h =
    let one : set out 0 k ≡ over out 0 (k ∷ []) = set_over out 0 k (omega arith) in
    let size = length_over out 0 (k ∷ []) (omega arith) in
    let two : set (over out 0 (k ∷ [])) 1 n ≡ over out 0 (k ∷ n ∷ [])
    = set_over (over out 0 (k ∷ [])) 1 n (omega arith) ∙ over_more out 0 (k ∷ []) (n ∷ []) 1 (omega arith) refl in
    ap (λ l. over (set l 1 n) 2 (image_all entry_code es)) one
    ∙ ap (λ l. over l 2 (image_all entry_code es)) two
    ∙ over_more out 0 (k ∷ n ∷ []) (image_all entry_code es) 2 (omega arith) refl

-- three pieces, one behind another
pub three_over : (out x y z : List ℕ) (p q r : ℕ) → p ≤ length out → q ≡ p + length x → r ≡ q + length y → over (over (over out p x) q y) r z ≡ over out p (x ++ (y ++ z))
three_over out x y z p q r h e f =
    ap (λ l. over l r z) (over_more out p x y q h e)
    ∙ over_more out p (x ++ y) z r h (omega (arith, length-append x y))
    ∙ ap (over out p) (append_assoc x y z)

module _ {G T : Type 0} (guard : Code G) (term : Code T) (guards : Exact guard) (wide : guard.width ≡ 8) (free : Free guard) (terms : Exact term) where
  -- how long the parts of a body are
  pub states_size : (F : Table G T) → length (image_all state_code F.states) ≡ length F.states * 3
  states_size F = size_all state_code state_exact F.states

  pub rules_size : (F : Table G T) → length (image_all (rule_code guard) F.rules) ≡ length F.rules * 14
  rules_size F = size_all (rule_code guard) (rule_exact guard guards wide free) F.rules

  pub outputs_size : (F : Table G T) → length (image_all term F.outputs) ≡ length F.outputs * term.width
  outputs_size F = size_all term terms F.outputs

  pub body_length : (F : Table G T) → length (body_of guard term F) ≡ length F.states * 3 + length F.rules * 14 + length F.outputs * term.width
  body_length F =
      let S = image_all state_code F.states in
      let R = image_all (rule_code guard) F.rules in
      let O = image_all term F.outputs in
      omega (arith, length-append S (R ++ O), length-append R O, states_size F, rules_size F, outputs_size F)

  -- one table of a shelf
  pub table_at : (M : Memory G T) (i : ℕ) (es : List Entry) (j : ℕ) (d : Table G T) → j < length es → get_or (tables_from M i es) j d ≡ holding M (i + j)
  table_at M i [] j d h = absurd (omega arith)
  table_at M i (e ∷ es) zero d h = let z : i + 0 ≡ i = omega arith in ap (holding M) (sym z)
  table_at M i (e ∷ es) (suc j) d h = let s : (i + 1) + j ≡ i + suc j = omega arith in table_at M (i + 1) es j d (omega arith) ∙ ap (holding M) s

  module _ (five : term.width ≡ 5) (M : Memory G T) (ok : fits M ≡ true) where
    pub tables_number : length (tables_of M) ≡ M.head.holdings
    tables_number = tables_from_number M 0 (in_use M) ∙ length-take-le M.head.holdings M.ledger (fitting M ok).long

    bodies : length (flat_map (body_of guard term) (tables_of M)) ≡ M.head.states * 3 + M.head.rules * 14 + M.head.outputs * 5
    bodies =
        let W = fitting M ok in
        let b = bodies_size guard term guards wide free terms five (tables_of M) in
        let c = ap (sum_by body_size) (ledger_counts M ok) in
        omega (arith, sizes (in_use M), W.all_states_lem, W.all_rules_lem, W.all_outputs_lem)

    front : length (image_all entry_code (map counts_of (tables_of M))) ≡ M.head.holdings * 6
    front =
        let n = length-map (tables_of M) (counts_of {G = G} {T = T}) in
        size_all entry_code entry_exact (map counts_of (tables_of M)) ∙ ap (λ m. m * 6) (n ∙ tables_number)

    -- the size of a shelf by its head
    pub shelf_size : (k : ℕ) → length (bytes_of guard term k (tables_of M)) ≡ 2 + M.head.holdings * 6 + M.head.states * 3 + M.head.rules * 14 + M.head.outputs * 5
    shelf_size k = omega (arith, length-append (image_all entry_code (map counts_of (tables_of M))) (flat_map (body_of guard term) (tables_of M)), front, bodies)

    -- the table of the holding behind i others
    pub holding_is : (i : ℕ) (F : Table G T) → i < M.head.holdings → F ≡ holding M i → F ≡ get_or (tables_of M) i F
    holding_is i F h e =
        let z : 0 + i ≡ i = omega arith in
        let n = length-take-le M.head.holdings M.ledger (fitting M ok).long in
        e ∙ ap (holding M) (sym z) ∙ sym (table_at M 0 (in_use M) i F (omega arith))

    -- a body ends within the shelf's bytes
    pub body_room : (k : ℕ) (at i : ℕ) (F : Table G T) → i < M.head.holdings → F ≡ holding M i → at ≡ 2 + M.head.holdings * 6 + length (flat_map (body_of guard term) (take i (tables_of M))) → at + length (body_of guard term F) ≤ length (bytes_of guard term k (tables_of M))
    body_room k at i F h e place =
        let is = ap (λ (A : Table G T). length (body_of guard term A)) (holding_is i F h e) in
        let p = prefix_size (body_of guard term) (tables_of M) i F (omega (arith, tables_number)) in
        omega (arith, shelf_size k, bodies)

    -- one body more
    pub body_more : (out now : List ℕ) (from at i : ℕ) (F : Table G T) → from ≤ length out → i < M.head.holdings → F ≡ holding M i → at ≡ from + length (flat_map (body_of guard term) (take i (tables_of M))) → now ≡ over out from (flat_map (body_of guard term) (take i (tables_of M))) → over now at (body_of guard term F) ≡ over out from (flat_map (body_of guard term) (take (i + 1) (tables_of M)))
    body_more out now from at i F start h e place same =
        let is = holding_is i F h e in
        let Gs = take i (tables_of M) in
        ap (λ l. over l at (body_of guard term F)) same
        ∙ over_more out from (flat_map (body_of guard term) Gs) (body_of guard term F) at start place
        ∙ ap (over out from) (joined_push (body_of guard term) Gs F)
        ∙ ap (λ (A : Table G T). over out from (flat_map (body_of guard term) (Gs ++ (A ∷ [])))) is
        ∙ ap (λ l. over out from (flat_map (body_of guard term) l)) (sym (take_more (tables_of M) i F (omega (arith, tables_number))))

    pub length_more : (from at i : ℕ) (F : Table G T) → i < M.head.holdings → F ≡ holding M i → at ≡ from + length (flat_map (body_of guard term) (take i (tables_of M))) → at + length (body_of guard term F) ≡ from + length (flat_map (body_of guard term) (take (i + 1) (tables_of M)))
    length_more from at i F h e place =
        let is = holding_is i F h e in
        let Gs = take i (tables_of M) in
        let more : flat_map (body_of guard term) Gs ++ body_of guard term F ≡ flat_map (body_of guard term) (take (i + 1) (tables_of M))
        = joined_push (body_of guard term) Gs F
        ∙ ap (λ (A : Table G T). flat_map (body_of guard term) (Gs ++ (A ∷ []))) is
        ∙ ap (flat_map (body_of guard term)) (sym (take_more (tables_of M) i F (omega (arith, tables_number)))) in
        omega (arith, length-append (flat_map (body_of guard term) Gs) (body_of guard term F), ap length more)

    -- front and bodies are the bytes of the shelf
    pub all_written : (k : ℕ) (out start now : List ℕ) (from i : ℕ) → M.head.holdings ≤ i → from ≡ 2 + M.head.holdings * 6 → start ≡ over out 0 (k ∷ length (in_use M) ∷ image_all entry_code (in_use M)) → now ≡ over start from (flat_map (body_of guard term) (take i (tables_of M))) → now ≡ over out 0 (bytes_of guard term k (tables_of M))
    all_written k out start now from i h e first same =
        let n = length-take-le M.head.holdings M.ledger (fitting M ok).long in
        let A = image_all entry_code (in_use M) in
        let B = flat_map (body_of guard term) (tables_of M) in
        let number : length (in_use M) ≡ length (tables_of M) = n ∙ sym tables_number in
        let size = size_all entry_code entry_exact (in_use M) in
        let six : length (in_use M) * 6 ≡ M.head.holdings * 6 = ap (λ m. m * 6) n in
        same
        ∙ ap (λ l. over start from (flat_map (body_of guard term) l)) (take_all i (tables_of M) (omega (arith, tables_number)))
        ∙ ap (λ l. over l from B) first
        ∙ over_more out 0 (k ∷ length (in_use M) ∷ A) B from (omega arith) (omega arith)
        ∙ ap (λ m. over out 0 (k ∷ m ∷ (A ++ B))) number
        ∙ ap (λ es. over out 0 (k ∷ length (tables_of M) ∷ (image_all entry_code es ++ B))) (sym (ledger_counts M ok))

    pub all_size : (k from at i : ℕ) → M.head.holdings ≤ i → from ≡ 2 + M.head.holdings * 6 → at ≡ from + length (flat_map (body_of guard term) (take i (tables_of M))) → at ≡ length (bytes_of guard term k (tables_of M))
    all_size k from at i h e place =
        let all = ap (λ l. length (flat_map (body_of guard term) l)) (take_all i (tables_of M) (omega (arith, tables_number))) in
        omega (arith, shelf_size k, bodies)

-- a sound shelf is small
pub record Small (h : Head) : Type 0 where
  pub holdings : h.holdings ≤ 16
  pub states : h.states ≤ 1024
  pub rules : h.rules ≤ 16384
  pub outputs : h.outputs ≤ 65536

module _ {G T : Type 0} (m : Model G T) (M : Memory G T) (sound : checked_shelf m M ≡ Ok tt) where
  total_of : (count : Entry → ℕ) (most : ℕ) → ((F : Table G T) → Safe m F → count (counts_of F) ≤ most) → sum_by count (in_use M) ≤ length (tables_of M) * most
  total_of count most one =
      let c = ap (sum_by count) (ledger_counts M (fits_ok m M sound)) in
      let f = few_in_all count most (tables_of M) (All-weaker (Safe m) (λ (F : Table G T). count (counts_of F) ≤ most) one (tables_of M) (shelf_safe m M sound)) in
      omega arith

  pub small : Small M.head
  small =
      let W = fitting M (fits_ok m M sound) in
      let n = tables_from_number M 0 (in_use M) ∙ length-take-le M.head.holdings M.ledger W.long in
      let s = total_of (λ (e : Entry). e.states) 64 (λ F safe. safe.few_states) in
      let r = total_of (λ (e : Entry). e.rules) 1024 (λ F safe. safe.few_rules) in
      let o = total_of (λ (e : Entry). e.outputs) 4096 (λ F safe. safe.few_outputs) in
      let few = W.few in
      let es = W.all_states_lem in
      let er = W.all_rules_lem in
      let eo = W.all_outputs_lem in
      record { holdings = few; states = omega arith; rules = omega arith; outputs = omega arith }

-- what is answered for a sound shelf
module _ {G T : Type 0} (m : Model G T) (guard : Code G) (term : Code T) (k : ℕ) (M : Memory G T) (sound : checked_shelf m M ≡ Ok tt) (room size : ℕ) (is : size ≡ length (bytes_of guard term k (tables_of M))) where
  by_size : encoded m guard term k M room ≡ cond (leb size room) (Ok size) (Err (TooShort size))
  by_size =
      ap (λ (r : Result Unit Fault). then (map_err Shelf r) (cond (leb (length (shelf_bytes m guard term k M)) room) (Ok (length (shelf_bytes m guard term k M))) (Err (TooShort (length (shelf_bytes m guard term k M)))))) sound
      ∙ ap (λ n. cond (leb n room) (Ok n) (Err (TooShort n))) (sym is)

  pub encoded_short : room < size → encoded m guard term k M room ≡ Err (TooShort size)
  encoded_short h = let f : leb size room ≡ false = grind (arith, nat_tests) in by_size ∙ ap (λ b. cond b (Ok size) (Err (TooShort size))) f

  pub encoded_ok : size ≤ room → encoded m guard term k M room ≡ Ok size
  encoded_ok h = let f : leb size room ≡ true = grind (arith, nat_tests) in by_size ∙ ap (λ b. cond b (Ok size) (Err (TooShort size))) f

ok_same : (x y : ℕ) → ◌≡◌ {A = Result ℕ StoredFault} (Ok x) (Ok y) → x ≡ y
ok_same x y e = cc

-- the bytes at the front of the output
pub front_is : (out bytes : List ℕ) (n m : ℕ) → ◌≡◌ {A = Result ℕ StoredFault} (Ok m) (Ok n) → m ≡ length bytes → take n (over out 0 bytes) ≡ bytes
front_is out bytes n m e size = take_at bytes _ n (omega (arith, ok_same m n e))
