-- The numbers of pairs: a pair keeps its number when the list grows, and no pair gets two.
use Rattle.std.proofs.Common.{◌≡◌, ℕ, ◌+◌, ◌*◌, ◌/◌, ◌%◌, ◌<◌, ◌≤◌, Bool, true, false, cond, ltb, List, [], ◌∷◌, ◌++◌, length, get_or, sym, refl, ap, ◌∙◌, append_assoc, append-nil, arith}
use lib.Arith.{digits_lt, digits_div, digits_mod}
use Rattle.std.specs.List.{AllByRecursion}
use Rattle.std.proofs.ByRecursion.{All-append, All-get_or}
use Rattle.std.proofs.lemmas.List.{length-append, get_or_append_left, get_or_at}
use Rattle.std.proofs.lemmas.Bool.Decides.{nat_tests}
use Rattle.machine.proofs.Pigeons.{pigeon}
use Rattle.join_laws.specs.Pairs.{Pair, place, met, met_all}
use Rattle.join_laws.proofs.Pairs.{Within}

-- the pair has a number
abbrev pub In : List Pair → Pair → Type 0
In P x = place P x < length P

-- each pair stands at its own number
abbrev pub Distinct : List Pair → Type 0
Distinct P = (i : ℕ) → i < length P → place P (get_or P i (0, 0)) ≡ i

-- Q goes on where P ends
abbrev pub Begins : {X : Type 0} → List X → List X → Type 0
Begins {X} P Q = (R : List X) × (P ++ R ≡ Q)

pub begins_refl : {X : Type 0} (P : List X) → Begins P P
begins_refl P = ([], append-nil P)

pub begins_trans : {X : Type 0} (P Q R : List X) → Begins P Q → Begins Q R → Begins P R
begins_trans P Q R (A, e) (B, f) = (A ++ B, sym (append_assoc P A B) ∙ ap (λ l. l ++ B) e ∙ f)

pub begins_length : {X : Type 0} (P Q : List X) → Begins P Q → length P ≤ length Q
begins_length P Q (A, e) = omega (arith, length-append P A, ap length e)

pub place_le : (P : List Pair) (x : Pair) → place P x ≤ length P
place_le [] x = omega arith
place_le (y ∷ P) x = let ih = place_le P x in grind arith

pub at_place : (P : List Pair) (x : Pair) → place P x < length P → get_or P (place P x) (0, 0) ≡ x
at_place [] x h = absurd (omega arith)
at_place ((a, b) ∷ P) (c, d) h = let ih = at_place P (c, d) in grind (arith, nat_tests)

pub place_append : (P Q : List Pair) (x : Pair) → place P x < length P → place (P ++ Q) x ≡ place P x
place_append [] Q x h = absurd (omega arith)
place_append (y ∷ P) Q x h = let ih = place_append P Q x in grind arith

pub place_new : (P Q : List Pair) (x : Pair) → length P ≤ place P x → place (P ++ x ∷ Q) x ≡ length P
place_new [] Q x h = grind (arith, nat_tests)
place_new (y ∷ P) Q x h = let ih = place_new P Q x in grind arith

pub begins_place : (P Q : List Pair) → Begins P Q → (x : Pair) → In P x → place Q x ≡ place P x
begins_place P Q (A, e) x h = ap (λ l. place l x) (sym e) ∙ place_append P A x h

pub begins_in : (P Q : List Pair) → Begins P Q → (x : Pair) → In P x → In Q x
begins_in P Q b x h = let e = begins_place P Q b x h in let l = begins_length P Q b in omega arith

pub begins_at : (P Q : List Pair) → Begins P Q → (i : ℕ) → i < length P → get_or Q i (0, 0) ≡ get_or P i (0, 0)
begins_at P Q (A, e) i h = ap (λ l. get_or l i (0, 0)) (sym e) ∙ get_or_append_left P A (0, 0) i h

-- a pair that is met
module _ (P : List Pair) (x : Pair) where
  pub met_old : In P x → met P x ≡ P
  met_old h = grind (arith, nat_tests)

  pub met_new : length P ≤ place P x → met P x ≡ P ++ x ∷ []
  met_new h = grind (arith, nat_tests)

  -- by whether it has a number
  met_cases : (Q : List Pair → Type 0) → (In P x → Q P) → (length P ≤ place P x → Q (P ++ x ∷ [])) → Q (met P x)
  met_cases Q old new = go (ltb (place P x) (length P)) refl
    where
      go : (b : Bool) → ltb (place P x) (length P) ≡ b → Q (cond b P (P ++ x ∷ []))
      go true e = old (grind (arith, nat_tests))
      go false e = new (grind (arith, nat_tests))

  pub met_begins : Begins P (met P x)
  met_begins = met_cases (Begins P) (λ _. begins_refl P) (λ _. (x ∷ [], refl))

  pub met_in : In (met P x) x
  met_in = met_cases (λ Q. In Q x) (λ h. h) (λ h. let e = place_new P [] x h in omega (arith, length-append P (x ∷ [])))

  pub met_distinct : Distinct P → Distinct (met P x)
  met_distinct d = met_cases Distinct (λ _. d) (λ new i h. go new i h (omega (arith, length-append P (x ∷ []))))
    where
      go : length P ≤ place P x → (i : ℕ) → i < length (P ++ x ∷ []) → i ≤ length P → place (P ++ x ∷ []) (get_or (P ++ x ∷ []) i (0, 0)) ≡ i
      go new i h k = at (ltb i (length P)) refl
        where
          at : (b : Bool) → ltb i (length P) ≡ b → place (P ++ x ∷ []) (get_or (P ++ x ∷ []) i (0, 0)) ≡ i
          at true e =
              let l : i < length P = grind (arith, nat_tests) in
              let own = d i l in
              ap (place (P ++ x ∷ [])) (get_or_append_left P (x ∷ []) (0, 0) i l)
              ∙ place_append P (x ∷ []) (get_or P i (0, 0)) (omega arith) ∙ own
          at false e =
              let l : length P ≡ i = grind (arith, nat_tests) in
              ap (place (P ++ x ∷ [])) (get_or_at P x [] (0, 0) i l) ∙ place_new P [] x new ∙ l

  pub met_all_lem : (Q : Pair → Type 0) → AllByRecursion Q P → Q x → AllByRecursion Q (met P x)
  met_all_lem Q all here = met_cases (AllByRecursion Q) (λ _. all) (λ _. All-append Q P (x ∷ []) all (here, tt))

pub met_all_begins : (P xs : List Pair) → Begins P (met_all P xs)
met_all_begins P [] = begins_refl P
met_all_begins P (x ∷ xs) = begins_trans P (met P x) (met_all (met P x) xs) (met_begins P x) (met_all_begins (met P x) xs)

pub met_all_in : (P xs : List Pair) → AllByRecursion (In (met_all P xs)) xs
met_all_in P [] = tt
met_all_in P (x ∷ xs) =
    (begins_in (met P x) (met_all (met P x) xs) (met_all_begins (met P x) xs) x (met_in P x), met_all_in (met P x) xs)

pub met_all_distinct : (P xs : List Pair) → Distinct P → Distinct (met_all P xs)
met_all_distinct P [] d = d
met_all_distinct P (x ∷ xs) d = met_all_distinct (met P x) xs (met_distinct P x d)

pub met_all_all : (Q : Pair → Type 0) (P xs : List Pair) → AllByRecursion Q P → AllByRecursion Q xs → AllByRecursion Q (met_all P xs)
met_all_all Q P [] all more = all
met_all_all Q P (x ∷ xs) all more = met_all_all Q (met P x) xs (met_all_lem P x Q all more.0) more.1

pub met_all_append : (P xs ys : List Pair) → met_all P (xs ++ ys) ≡ met_all (met_all P xs) ys
met_all_append P [] ys = refl
met_all_append P (x ∷ xs) ys = met_all_append (met P x) xs ys

pair_same : (x y : Pair) → x.0 ≡ y.0 → x.1 ≡ y.1 → x ≡ y
pair_same (a, b) (c, d) e f = cc

-- the pair of a number as one number
abbrev code : ℕ → List Pair → ℕ → ℕ
code b P i = (get_or P i (0, 0)).0 * b + (get_or P i (0, 0)).1

-- no more pairs than there are
pub few : (a b : ℕ) (P : List Pair) → Distinct P → AllByRecursion (Within a b) P → length P ≤ a * b
few a b P d all = pigeon (a * b) (length P) (code b P) below apart
  where
    within : (i : ℕ) → i < length P → Within a b (get_or P i (0, 0))
    within i h = All-get_or (Within a b) P i (0, 0) h all

    below : (i : ℕ) → i < length P → code b P i < a * b
    below i h = digits_lt (within i h).0 (within i h).1

    apart : (i j : ℕ) → i < length P → j < length P → code b P i ≡ code b P j → i ≡ j
    apart i j h k e =
        let x = get_or P i (0, 0) in
        let y = get_or P j (0, 0) in
        let f : x.0 ≡ y.0 = sym (digits_div x.0 (within i h).1) ∙ ap (λ n. n / b) e ∙ digits_div y.0 (within j k).1 in
        let g : x.1 ≡ y.1 = sym (digits_mod x.0 (within i h).1) ∙ ap (λ n. n % b) e ∙ digits_mod y.0 (within j k).1 in
        let same = pair_same x y f g in
        sym (d i h) ∙ ap (place P) same ∙ d j k
