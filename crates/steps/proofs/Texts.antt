-- The texts of steps.
use Rattle.std.proofs.Common.{◌≡◌, ℕ, zero, suc, ◌+◌, ◌<◌, ◌≤◌, cond, ltb, List, [], ◌∷◌, ◌++◌, length, get_or, drop, set, sym, refl, ap, ◌∙◌, append_assoc, arith, length-append}
use native.Mathlib.Decide.{dec_lt}
use Rattle.std.proofs.lemmas.List.{get_or_append_left, get_or_push, get_or_past, get_or-map, length-map, map-append, drop-set}
use Rattle.std.proofs.lemmas.Bool.{lt-ltb, le-ltb}
use Rattle.std.proofs.lemmas.Bool.Decides.{nat_tests}
use Rattle.machine.proofs.Orders.{strong}
use Rattle.machine.specs.Texts.{grown, texts}
use Rattle.machine.proofs.Texts.{texts_length, texts_push, text_start}
use Rattle.steps.specs.declared.step.Step.{Step}
use Rattle.steps.specs.Steps.{blank, at, nodes_of, text, above_of}

-- the texts that were there stay
keeps : (V : List (List ℕ)) (ns : List (ℕ × ℕ)) (i : ℕ) → i < length V → get_or (grown V ns) i [] ≡ get_or V i []
unfolding grown
keeps V [] i h = refl
keeps V (c ∷ ns) i h =
    let t = (get_or V c.0 [] ++ (c.1 ∷ [])) ∷ [] in
    keeps (V ++ t) ns i (simp length-append (omega arith)) ∙ get_or_append_left V t [] i h

-- the text that a node goes on from: an earlier one, or none
abbrev base : List (List ℕ) → ℕ → ℕ → List ℕ
base V i p = cond (ltb p i) (get_or V p []) []

-- the text of a node, whatever its parent
grown_at : (V : List (List ℕ)) (ns : List (ℕ × ℕ)) (j : ℕ) → j < length ns
    → get_or (grown V ns) (length V + j) [] ≡ base (grown V ns) (length V + j) (get_or ns j (0, 0)).0 ++ ((get_or ns j (0, 0)).1 ∷ [])
unfolding grown
grown_at V [] j h = absurd (omega arith)
grown_at V (c ∷ ns) zero h = elim (dec_lt c.0 (length V + 0)) [ yes l ↦ inside l | no l ↦ outside l ]
  where
    x : List ℕ
    x = get_or V c.0 [] ++ (c.1 ∷ [])

    more : length (V ++ (x ∷ [])) ≡ length V + 1
    more = length-append V (x ∷ [])

    new : get_or (grown (V ++ (x ∷ [])) ns) (length V + 0) [] ≡ x
    new = keeps (V ++ (x ∷ [])) ns (length V + 0) (omega (arith, more)) ∙ get_or_push V x [] (length V + 0) (omega arith)

    inside : c.0 < length V + 0 → get_or (grown (V ++ (x ∷ [])) ns) (length V + 0) [] ≡ base (grown (V ++ (x ∷ [])) ns) (length V + 0) c.0 ++ (c.1 ∷ [])
    inside l =
        let old = keeps (V ++ (x ∷ [])) ns c.0 (omega (arith, more)) ∙ get_or_append_left V (x ∷ []) [] c.0 (omega arith) in
        rw (lt-ltb c.0 (length V + 0) l) (new ∙ ap (λ t. t ++ (c.1 ∷ [])) (sym old))

    outside : (c.0 < length V + 0 → ⊥) → get_or (grown (V ++ (x ∷ [])) ns) (length V + 0) [] ≡ base (grown (V ++ (x ∷ [])) ns) (length V + 0) c.0 ++ (c.1 ∷ [])
    outside l =
        let past = get_or_past V c.0 [] (omega arith) in
        rw (le-ltb c.0 (length V + 0) (omega arith)) (new ∙ ap (λ t. t ++ (c.1 ∷ [])) past)
grown_at V (c ∷ ns) (suc j) h =
    let x = get_or V c.0 [] ++ (c.1 ∷ []) in
    let more = length-append V (x ∷ []) in
    let place : length V + suc j ≡ length (V ++ (x ∷ [])) + j = omega arith in
    rw place (grown_at (V ++ (x ∷ [])) ns j (omega arith))

node_at : (L : List Step) (i : ℕ) → i < length L → get_or (nodes_of L) i (0, 0) ≡ ((at L i).parent, (at L i).symbol)
node_at L i h = get_or-map (λ (x : Step). (x.parent, x.symbol)) L i blank (0, 0) h

-- the first text is empty
pub text_zero : (L : List Step) → text L 0 ≡ []
unfolding text
text_zero L = text_start (nodes_of L)

-- as many texts as steps
pub texts_count : (L : List Step) → length (texts (nodes_of L)) ≡ length L
texts_count L = let node : Step → ℕ × ℕ = λ x. (x.parent, x.symbol) in texts_length (nodes_of L) ∙ length-map L node

-- a number that no step has stands for the empty text
pub text_past : (L : List Step) (i : ℕ) → length L ≤ i → text L i ≡ []
unfolding text
text_past L i h = get_or_past (texts (nodes_of L)) i [] (omega (arith, texts_count L))

-- every other text is one with one symbol more
pub text_more : (L : List Step) (i : ℕ) → 0 < i → i < length L → text L i ≡ text L (above_of L i) ++ ((at L i).symbol ∷ [])
unfolding text
text_more [] i h l = absurd (omega arith)
text_more (r ∷ L) zero h l = absurd (omega arith)
text_more (r ∷ L) (suc j) h l =
    place ∙ grown_at ([] ∷ []) (nodes_of L) j (omega (arith, texts_length (nodes_of L), texts_count L))
    ∙ ap (λ (n : ℕ × ℕ). base (grown ([] ∷ []) (nodes_of L)) (1 + j) n.0 ++ (n.1 ∷ [])) (node_at L j (omega arith))
    ∙ ap (λ t. t ++ ((at L j).symbol ∷ [])) go
  where
    place : get_or (grown ([] ∷ []) (nodes_of L)) (suc j) [] ≡ get_or (grown ([] ∷ []) (nodes_of L)) (1 + j) []
    place = let e : suc j ≡ 1 + j = omega arith in ap (λ i. get_or (grown ([] ∷ []) (nodes_of L)) i []) e

    go : base (grown ([] ∷ []) (nodes_of L)) (1 + j) (at L j).parent ≡ text (r ∷ L) (above_of (r ∷ L) (suc j))
    go =
        elim (dec_lt (at L j).parent (suc j)) [
          | yes l ↦ rw (lt-ltb (at L j).parent (1 + j) (omega arith), lt-ltb (at L j).parent (suc j) l)
          | no l ↦ rw (le-ltb (at L j).parent (1 + j) (omega arith), le-ltb (at L j).parent (suc j) (omega arith), text_start (nodes_of (r ∷ L)))
        ]

-- no text is longer than its number
pub text_short : (L : List Step) (i : ℕ) → length (text L i) ≤ i
text_short L = strong (λ i. length (text L i) ≤ i) go
  where
    go : (i : ℕ) → ((k : ℕ) → k < i → length (text L k) ≤ k) → length (text L i) ≤ i
    go zero below = rw (text_zero L) (omega arith)
    go (suc i) below =
        elim (dec_lt (suc i) (length L)) [
          | no l ↦ rw (text_past L (suc i) (omega arith)) (omega arith)
          | yes l ↦
              let a : above_of L (suc i) < suc i = grind (arith, nat_tests) in
              let k = below (above_of L (suc i)) a in
              rw (text_more L (suc i) (omega arith) l) (simp length-append (omega arith))
        ]

-- one step more leaves the texts of the others, and its own is its parent's with its symbol
module _ (L : List Step) (x : Step) (some : 0 < length L) where
  pushed : texts (nodes_of (L ++ (x ∷ []))) ≡ texts (nodes_of L) ++ ((text L x.parent ++ (x.symbol ∷ [])) ∷ [])
  unfolding text
  pushed =
      let node : Step → ℕ × ℕ = λ y. (y.parent, y.symbol) in
      ap texts (map-append node L (x ∷ [])) ∙ texts_push (nodes_of L) (node x) (omega (arith, length-map L node))

  pub text_old : (i : ℕ) → i < length L → text (L ++ (x ∷ [])) i ≡ text L i
  unfolding text
  text_old i h =
      ap (λ V. get_or V i []) pushed ∙ get_or_append_left (texts (nodes_of L)) _ [] i (omega (arith, texts_count L))

  pub text_new : text (L ++ (x ∷ [])) (length L) ≡ text L x.parent ++ (x.symbol ∷ [])
  unfolding text
  text_new =
      ap (λ V. get_or V (length L) []) pushed ∙ get_or_push (texts (nodes_of L)) _ [] (length L) (texts_count L)

-- the text of the step above is one symbol shorter
pub text_length_more : (L : List Step) (i : ℕ) → 0 < i → i < length L → length (text L i) ≡ length (text L (above_of L i)) + 1
text_length_more L i h l =
    ap length (text_more L i h l) ∙ length-append (text L (above_of L i)) ((at L i).symbol ∷ [])

-- a symbol more is written, in front of those that are there
pub text_filled : (L : List Step) (i j : ℕ) (w whole : List ℕ) → 0 < i → i < length L → j + 1 ≡ length (text L i) → j < length w
    → whole ≡ text L i ++ drop (j + 1) w → whole ≡ text L (above_of L i) ++ drop j (set w j (at L i).symbol)
text_filled L i j w whole h l e k known =
    known ∙ ap (λ t. t ++ drop (j + 1) w) (text_more L i h l)
    ∙ append_assoc (text L (above_of L i)) ((at L i).symbol ∷ []) (drop (j + 1) w)
    ∙ ap (λ t. text L (above_of L i) ++ t) (sym (drop-set w j (at L i).symbol k))
