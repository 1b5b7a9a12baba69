-- Lists that are filled from their front.
use Rattle.std.proofs.Common.{◌≡◌, ℕ, ◌+◌, ◌<◌, ◌≤◌, List, [], ◌∷◌, ◌++◌, map, length, get_or, take, drop, set, sym, ap, ◌∙◌, arith}
use Rattle.std.proofs.lemmas.List.{take_at, append_assoc, length-map, length-take-le, drop_more, set_at, map_more}
use Rattle.table.specs.declared.entries.State.{State}
use Rattle.table.specs.declared.entries.Rule.{Rule}
use Rattle.table.specs.Table.{Table}
use Rattle.range_laws.specs.declared.Range.{Range}
use Rattle.range_laws.specs.declared.RangeTerm.{RangeTerm}
use Rattle.join_laws.specs.Theorems.{Limited}
use Rattle.join.specs.Filled.{Roomy}

pub cut_is : {X : Type 0} (J before after items : List X) (len n : ℕ) → length after ≡ len → after ≡ J ++ drop (length J) before → n ≡ length J → take n (take len (after ++ drop (length after) items)) ≡ J
cut_is J before after items len n whole is count =
    ap (take n) (take_at after (drop (length after) items) len whole)
    ∙ ap (take n) is
    ∙ take_at J (drop (length J) before) n (sym count)

-- three lists make a table
pub table_is : {G T : Type 0} (J : Table G T) (states : List State) (rules : List (Rule G)) (outputs : List T) → states ≡ J.states → rules ≡ J.rules → outputs ≡ J.outputs → record { states = states; rules = rules; outputs = outputs } ≡ J
table_is {G} {T} J states rules outputs p q r =
    let one : List State → Table G T = λ x. record { states = x; rules = rules; outputs = outputs } in
    let two : List (Rule G) → Table G T = λ x. record { states = J.states; rules = x; outputs = outputs } in
    let three : List T → Table G T = λ x. record { states = J.states; rules = J.rules; outputs = x } in
    ap one p ∙ ap two q ∙ ap three r

-- one entry more is written behind those so far
pub one_more : {X Y : Type 0} (f : X → Y) (xs : List X) (ys : List Y) (i : ℕ) (x : X) (y : Y) → i < length xs → length xs ≤ length ys → x ≡ get_or xs i x → set (map f (take i xs) ++ drop i ys) i (f x) ≡ map f (take (i + 1) xs) ++ drop (i + 1) ys
one_more f xs ys i x y below room read =
    let long : length (map f (take i xs)) ≡ i = length-map (take i xs) f ∙ length-take-le i xs (omega arith) in
    ap (λ l. set (map f (take i xs) ++ l) i (f x)) (drop_more ys i y (omega arith))
    ∙ set_at (map f (take i xs)) (get_or ys i y) (drop (i + 1) ys) (f x) i long
    ∙ ap (λ v. map f (take i xs) ++ v ∷ drop (i + 1) ys) (ap f read)
    ∙ sym (append_assoc (map f (take i xs)) (f (get_or xs i x) ∷ []) (drop (i + 1) ys))
    ∙ ap (λ l. l ++ drop (i + 1) ys) (sym (map_more f xs i x below))

-- a table within the limits has room in lists that are as long as the limits
pub all_fit : (J : Table Range RangeTerm) (pairs : ℕ) (states : List State) (rules : List (Rule Range)) (outputs : List RangeTerm) → Limited J
    → pairs ≡ 64 → length states ≡ 64 → length rules ≡ 1024 → length outputs ≡ 4096 → Roomy J pairs states rules outputs
all_fit J pairs states rules outputs limited p s r o = record {
  limited = limited;
  pairs_fit = omega (arith, limited.states);
  states_fit = omega (arith, limited.states);
  rules_fit = omega (arith, limited.rules);
  outputs_fit = omega (arith, limited.outputs);
}
