-- Tables put on a shelf one after another.
use Rattle.std.proofs.Common.{◌≡◌, ℕ, zero, suc, ◌+◌, ◌<◌, ◌≤◌, List, [], ◌∷◌, ◌++◌, map, length, get_or, take, set, Ok, sum_by, sym, refl, ap, ◌∙◌, arith}
use Rattle.std.specs.List.{flat_map}
use Rattle.std.proofs.lemmas.List.{flat_map_more, length-append, length-map, length_push, length-take-le, map_push, take_more}
use Rattle.std.proofs.lemmas.List.Sums.{sum_by-cons}
use Rattle.std.proofs.lemmas.Bool.Decides.{nat_tests}
use Rattle.table.specs.declared.entries.State.{State}
use Rattle.table.specs.declared.entries.Rule.{Rule}
use Rattle.table.specs.Table.{Table}
use Rattle.holdings.specs.declared.memory.Entry.{Entry}
use Rattle.holdings.specs.declared.memory.Head.{Head}
use Rattle.holdings.specs.Memory.{Memory, states_of_lem, rules_of, outputs_of_lem, opened}
use Rattle.holdings.specs.Append.{over, appended}
use Rattle.codec_laws.specs.Code.{Code}
use Rattle.codec_laws.proofs.Overs.{length_over, over_more, over_none, set_over}
use Rattle.stored_laws.specs.Format.{counts_of, body_size, table_in, tables_in}
use Rattle.stored_laws.specs.Shelved.{all_states, all_rules, all_outputs, head_of, room_for, shelved}
use Rattle.stored_laws.proofs.Again.{counts_again}

pub same_head : (a b : Head) → a.holdings ≡ b.holdings → a.states ≡ b.states → a.rules ≡ b.rules → a.outputs ≡ b.outputs → a ≡ b
same_head a b h s r o =
    let head : ℕ → ℕ → ℕ → ℕ → Head = λ w x y z. record { holdings = w; states = x; rules = y; outputs = z } in
    ap (λ w. head w a.states a.rules a.outputs) h
    ∙ ap (λ x. head b.holdings x a.rules a.outputs) s
    ∙ ap (λ y. head b.holdings b.states y a.outputs) r
    ∙ ap (head b.holdings b.states b.rules) o

pub same_memory : {G T : Type 0} (A B : Memory G T) → A.head ≡ B.head → A.ledger ≡ B.ledger → A.states ≡ B.states → A.rules ≡ B.rules → A.outputs ≡ B.outputs → A ≡ B
same_memory {G} {T} A B h l s r o =
    let memory : Head → List Entry → List State → List (Rule G) → List T → Memory G T = λ v w x y z. record { head = v; ledger = w; states = x; rules = y; outputs = z } in
    ap (λ v. memory v A.ledger A.states A.rules A.outputs) h
    ∙ ap (λ w. memory B.head w A.states A.rules A.outputs) l
    ∙ ap (λ x. memory B.head B.ledger x A.rules A.outputs) s
    ∙ ap (λ y. memory B.head B.ledger B.states y A.outputs) r
    ∙ ap (memory B.head B.ledger B.states B.rules) o

-- one piece more
pub joined_push : {X Y : Type 0} (f : X → List Y) (xs : List X) (x : X) → flat_map f xs ++ f x ≡ flat_map f (xs ++ x ∷ [])
joined_push f xs x = flat_map_more f [] xs x

module _ {G T : Type 0} (M : Memory G T) where
  -- a shelf without tables
  pub shelved_none : opened M.ledger M.states M.rules M.outputs ≡ shelved M []
  shelved_none =
      same_memory (opened M.ledger M.states M.rules M.outputs) (shelved M []) refl (sym (over_none M.ledger 0 (omega arith))) (sym (over_none M.states 0 (omega arith))) (sym (over_none M.rules 0 (omega arith))) (sym (over_none M.outputs 0 (omega arith)))

  module _ (Gs : List (Table G T)) (F : Table G T) (room : length Gs < length M.ledger) where
    longer : {Y : Type 0} (f : Table G T → List Y) → length (flat_map f Gs) + length (f F) ≡ length (flat_map f (Gs ++ F ∷ []))
    longer f = sym (length-append (flat_map f Gs) (f F)) ∙ ap length (joined_push f Gs F)

    list_more : {Y : Type 0} (f : Table G T → List Y) (xs : List Y) → over (over xs 0 (flat_map f Gs)) (length (flat_map f Gs)) (f F) ≡ over xs 0 (flat_map f (Gs ++ F ∷ []))
    list_more f xs = over_more xs 0 (flat_map f Gs) (f F) (length (flat_map f Gs)) (omega arith) (omega arith) ∙ ap (over xs 0) (joined_push f Gs F)

    ledger_more : set (over M.ledger 0 (map counts_of Gs)) (length Gs) (counts_of F) ≡ over M.ledger 0 (map counts_of (Gs ++ F ∷ []))
    ledger_more =
        let n = length-map Gs (counts_of {G = G} {T = T}) in
        let size = length_over M.ledger 0 (map counts_of Gs) (omega arith) in
        set_over (over M.ledger 0 (map counts_of Gs)) (length Gs) (counts_of F) (omega arith)
        ∙ over_more M.ledger 0 (map counts_of Gs) (counts_of F ∷ []) (length Gs) (omega arith) (omega arith)
        ∙ ap (over M.ledger 0) (sym (map_push counts_of Gs F))

    pub shelved_more : appended (shelved M Gs) F ≡ shelved M (Gs ++ F ∷ [])
    shelved_more =
        let head = same_head (appended (shelved M Gs) F).head (head_of (Gs ++ F ∷ [])) (sym (length_push Gs F)) (longer (λ (A : Table G T). A.states)) (longer (λ (A : Table G T). A.rules)) (longer (λ (A : Table G T). A.outputs)) in
        same_memory (appended (shelved M Gs) F) (shelved M (Gs ++ F ∷ [])) head ledger_more (list_more (λ (A : Table G T). A.states) M.states) (list_more (λ (A : Table G T). A.rules) M.rules) (list_more (λ (A : Table G T). A.outputs) M.outputs)

  -- what it says that there is room
  pub record Room (h : Head) : Type 0 where
    pub ledger : h.holdings ≤ length M.ledger
    pub states : h.states ≤ length M.states
    pub rules : h.rules ≤ length M.rules
    pub outputs : h.outputs ≤ length M.outputs

  pub room_is : (h : Head) → room_for M h ≡ Ok tt → Room h
  room_is h e = record { ledger = grind (arith, nat_tests); states = grind (arith, nat_tests); rules = grind (arith, nat_tests); outputs = grind (arith, nat_tests) }

module _ {G T : Type 0} (guard : Code G) (term : Code T) (file : List ℕ) where
  -- how many states, rules and outputs the tables of a file have
  module _ {Y : Type 0} (f : Table G T → List Y) (count : Entry → ℕ) (same : (p : ℕ) (e : Entry) → length (f (table_in guard term file p e)) ≡ count e) where
    total : (p : ℕ) (es : List Entry) → length (flat_map f (tables_in guard term file p es)) ≡ sum_by count es
    total p [] = refl
    total p (e ∷ es) =
        omega (arith, length-append (f (table_in guard term file p e)) (flat_map f (tables_in guard term file (p + body_size e) es)), same p e, total (p + body_size e) es, sum_by-cons count e es)

  pub total_states : (p : ℕ) (es : List Entry) → length (all_states (tables_in guard term file p es)) ≡ states_of_lem es
  total_states p es = total (λ (A : Table G T). A.states) (λ (e : Entry). e.states) (λ q e. ap (λ (x : Entry). x.states) (counts_again guard term file q e)) p es

  pub total_rules : (p : ℕ) (es : List Entry) → length (all_rules (tables_in guard term file p es)) ≡ rules_of es
  total_rules p es = total (λ (A : Table G T). A.rules) (λ (e : Entry). e.rules) (λ q e. ap (λ (x : Entry). x.rules) (counts_again guard term file q e)) p es

  pub total_outputs : (p : ℕ) (es : List Entry) → length (all_outputs (tables_in guard term file p es)) ≡ outputs_of_lem es
  total_outputs p es = total (λ (A : Table G T). A.outputs) (λ (e : Entry). e.outputs) (λ q e. ap (λ (x : Entry). x.outputs) (counts_again guard term file q e)) p es

  -- the table behind i others
  pub tables_at : (p : ℕ) (es : List Entry) (i : ℕ) (blank : Entry) (d : Table G T) → i < length es → get_or (tables_in guard term file p es) i d ≡ table_in guard term file (p + sum_by body_size (take i es)) (get_or es i blank)
  tables_at p [] i blank d h = absurd (omega arith)
  tables_at p (e ∷ es) zero blank d h = let z : p + 0 ≡ p = omega arith in ap (λ q. table_in guard term file q e) (sym z)
  tables_at p (e ∷ es) (suc i) blank d h =
      let q : (p + body_size e) + sum_by body_size (take i es) ≡ p + sum_by body_size (take (suc i) (e ∷ es)) = omega (arith, sum_by-cons body_size e (take i es)) in
      tables_at (p + body_size e) es i blank d (omega arith) ∙ ap (λ m. table_in guard term file m (get_or es i blank)) q

-- the pieces up to one of them
pub prefix_size : {X Y : Type 0} (f : X → List Y) (xs : List X) (i : ℕ) (d : X) → i < length xs → length (flat_map f (take i xs)) + length (f (get_or xs i d)) ≤ length (flat_map f xs)
prefix_size f [] i d h = absurd (omega arith)
prefix_size f (x ∷ xs) zero d h = omega (arith, length-append (f x) (flat_map f xs))
prefix_size f (x ∷ xs) (suc i) d h =
    omega (arith, length-append (f x) (flat_map f xs), length-append (f x) (flat_map f (take i xs)), prefix_size f xs i d (omega arith))

-- a shelf with the tables before one of them has room for it, and then holds one more
module _ {G T : Type 0} (M : Memory G T) (Fs : List (Table G T)) (room : Room M (head_of Fs)) (i : ℕ) (F : Table G T) (within : i < length Fs) (is : F ≡ get_or Fs i F) where
  list_room : {Y : Type 0} (f : Table G T → List Y) (xs : List Y) → length (flat_map f Fs) ≤ length xs → length (flat_map f (take i Fs)) + length (f F) ≤ length (over xs 0 (flat_map f (take i Fs)))
  list_room f xs h =
      let p = prefix_size f Fs i F within in
      let same = ap (λ (A : Table G T). length (f A)) is in
      omega (arith, length_over xs 0 (flat_map f (take i Fs)) (omega arith))

  pub room_ledger : i < length (shelved M (take i Fs)).ledger
  room_ledger =
      let n = length-take-le i Fs (omega arith) in
      let m = length-map (take i Fs) (counts_of {G = G} {T = T}) in
      let r = room.ledger in
      omega (arith, length_over M.ledger 0 (map counts_of (take i Fs)) (omega arith))

  pub room_states : length (all_states (take i Fs)) + length F.states ≤ length (shelved M (take i Fs)).states
  room_states = list_room (λ (A : Table G T). A.states) M.states room.states

  pub room_rules : length (all_rules (take i Fs)) + length F.rules ≤ length (shelved M (take i Fs)).rules
  room_rules = list_room (λ (A : Table G T). A.rules) M.rules room.rules

  pub room_outputs : length (all_outputs (take i Fs)) + length F.outputs ≤ length (shelved M (take i Fs)).outputs
  room_outputs = list_room (λ (A : Table G T). A.outputs) M.outputs room.outputs

  pub shelved_next : appended (shelved M (take i Fs)) F ≡ shelved M (take (i + 1) Fs)
  shelved_next =
      let n = length-take-le i Fs (omega arith) in
      let r = room.ledger in
      shelved_more M (take i Fs) F (omega arith)
      ∙ ap (shelved M) (ap (λ (A : Table G T). take i Fs ++ (A ∷ [])) is ∙ sym (take_more Fs i F within))
