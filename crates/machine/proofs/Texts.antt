-- The texts of nodes.
use Rattle.std.proofs.Common.{◌≡◌, ℕ, zero, suc, ◌+◌, ◌<◌, ◌≤◌, List, [], ◌∷◌, ◌++◌, length, get_or, sym, refl, ap, ◌∙◌, arith, length-append}
use Rattle.std.proofs.lemmas.List.{get_or_append_left, get_or_push}
use Rattle.machine.proofs.Orders.{strong}
use Rattle.machine.specs.Texts.{grown, texts, text_at, Rooted}

-- one more node, one more text
grown_push : (V : List (List ℕ)) (ns : List (ℕ × ℕ)) (n : ℕ × ℕ)
    → grown V (ns ++ (n ∷ [])) ≡ grown V ns ++ ((get_or (grown V ns) n.0 [] ++ (n.1 ∷ [])) ∷ [])
unfolding grown
grown_push V [] n = refl
grown_push V (c ∷ ns) n = grown_push (V ++ ((get_or V c.0 [] ++ (c.1 ∷ [])) ∷ [])) ns n

-- as many texts as there were, and nodes
grown_length : (V : List (List ℕ)) (ns : List (ℕ × ℕ)) → length (grown V ns) ≡ length V + length ns
unfolding grown
grown_length V [] = omega arith
grown_length V (c ∷ ns) =
    let t = (get_or V c.0 [] ++ (c.1 ∷ [])) ∷ [] in
    let ih = grown_length (V ++ t) ns in omega (arith, length-append V t)

-- the texts that were there stay
grown_keeps : (V : List (List ℕ)) (ns : List (ℕ × ℕ)) (i : ℕ) → i < length V → get_or (grown V ns) i [] ≡ get_or V i []
unfolding grown
grown_keeps V [] i h = refl
grown_keeps V (c ∷ ns) i h =
    let t = (get_or V c.0 [] ++ (c.1 ∷ [])) ∷ [] in
    grown_keeps (V ++ t) ns i (simp length-append (omega arith)) ∙ get_or_append_left V t [] i h

-- the text of a node is its parent's with the symbol behind it
grown_at : (V : List (List ℕ)) (ns : List (ℕ × ℕ)) (j : ℕ) → j < length ns → (get_or ns j (0, 0)).0 < length V + j
    → get_or (grown V ns) (length V + j) [] ≡ get_or (grown V ns) (get_or ns j (0, 0)).0 [] ++ ((get_or ns j (0, 0)).1 ∷ [])
unfolding grown
grown_at V [] j h p = absurd (omega arith)
grown_at V (c ∷ ns) zero h p =
    let x = get_or V c.0 [] ++ (c.1 ∷ []) in
    let parent : c.0 < length V = omega arith in
    let more = length-append V (x ∷ []) in
    let old = grown_keeps (V ++ (x ∷ [])) ns c.0 (omega arith) ∙ get_or_append_left V (x ∷ []) [] c.0 parent in
    let new = grown_keeps (V ++ (x ∷ [])) ns (length V + 0) (omega arith) ∙ get_or_push V x [] (length V + 0) (omega arith) in
    new ∙ ap (λ t. t ++ (c.1 ∷ [])) (sym old)
grown_at V (c ∷ ns) (suc j) h p =
    let x = get_or V c.0 [] ++ (c.1 ∷ []) in
    let more = length-append V (x ∷ []) in
    let place : length V + suc j ≡ length (V ++ (x ∷ [])) + j = omega arith in
    rw place (grown_at (V ++ (x ∷ [])) ns j (omega arith) (omega arith))

-- as many texts as nodes
pub texts_length : (ns : List (ℕ × ℕ)) → length (texts ns) ≡ length ns
texts_length [] = refl
texts_length (root ∷ ns) = let l = grown_length ([] ∷ []) ns in omega arith

-- one node: the empty text
pub texts_root : (n : ℕ × ℕ) → texts (n ∷ []) ≡ [] ∷ []
unfolding grown
texts_root n = refl

-- a node put behind the others puts its text behind theirs
pub texts_push : (ns : List (ℕ × ℕ)) (n : ℕ × ℕ) → 0 < length ns
    → texts (ns ++ (n ∷ [])) ≡ texts ns ++ ((text_at ns n.0 ++ (n.1 ∷ [])) ∷ [])
texts_push [] n h = absurd (omega arith)
texts_push (root ∷ ns) n h = grown_push ([] ∷ []) ns n

-- the first text is empty
pub text_start : (ns : List (ℕ × ℕ)) → text_at ns 0 ≡ []
text_start [] = refl
text_start (root ∷ ns) = grown_keeps ([] ∷ []) ns 0 (omega arith)

-- every other text is that of its parent with one symbol more
pub text_at_lem : (ns : List (ℕ × ℕ)) → Rooted ns → (i : ℕ) → 0 < i → i < length ns
    → text_at ns i ≡ text_at ns (get_or ns i (0, 0)).0 ++ ((get_or ns i (0, 0)).1 ∷ [])
text_at_lem [] rooted i h l = absurd (omega arith)
text_at_lem (root ∷ ns) rooted zero h l = absurd (omega arith)
text_at_lem (root ∷ ns) rooted (suc j) h l =
    let parent = rooted (suc j) h l in
    let place : suc j ≡ 1 + j = omega arith in
    ap (λ i. get_or (grown ([] ∷ []) ns) i []) place ∙ grown_at ([] ∷ []) ns j (omega arith) (omega arith)

-- no text is longer than its number
pub text_short : (ns : List (ℕ × ℕ)) → Rooted ns → (i : ℕ) → i < length ns → length (text_at ns i) ≤ i
text_short ns rooted =
    strong (λ i. i < length ns → length (text_at ns i) ≤ i) go
  where
    -- by the parent's number
    go : (i : ℕ) → ((k : ℕ) → k < i → k < length ns → length (text_at ns k) ≤ k) → i < length ns → length (text_at ns i) ≤ i
    go zero below h = rw (text_start ns) (omega arith)
    go (suc i) below h =
        let p = rooted (suc i) (omega arith) h in
        let l = below (get_or ns (suc i) (0, 0)).0 p (omega arith) in
        rw (text_at_lem ns rooted (suc i) (omega arith) h) (simp length-append (omega arith))
