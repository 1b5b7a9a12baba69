-- Words of terms with symbols among them: equal at two symbols, they are equal at every one.
use Rattle.std.proofs.Common.{◌≡◌, ℕ, ◌⊎◌, List, [], ◌∷◌, ◌++◌, map, Some, Option, sym, refl, ◌∙◌, inl, inr, arith}
use Rattle.std.specs.List.{AllByRecursion}
use Rattle.std.proofs.ByRecursion.{All-append}
use Rattle.machine.specs.Terms.{values, TermLaws}

-- the value of a term, or of a symbol that is written already
abbrev value_of : {T : Type 0} → (T → ℕ → Option ℕ) → T ⊎ ℕ → ℕ → Option ℕ
value_of value (inl t) s = value t s
value_of value (inr c) s = Some c

-- a good term, or a symbol
abbrev Fit : {T : Type 0} → (T → Type 0) → T ⊎ ℕ → Type 0
Fit Good (inl t) = Good t
Fit Good (inr c) = Unit {0}

-- the word has these values at the symbol
abbrev Reads : {T : Type 0} → (T → ℕ → Option ℕ) → List (T ⊎ ℕ) → ℕ → List ℕ → Type 0
Reads value [] s [] = Unit {0}
Reads value [] s (c ∷ w) = ⊥
Reads value (t ∷ L) s [] = ⊥
Reads value (t ∷ L) s (c ∷ w) = (value_of value t s ≡ Some c) × Reads value L s w

-- words that are read one after another
reads_append : {T : Type 0} (value : T → ℕ → Option ℕ) (L M : List (T ⊎ ℕ)) (s : ℕ) (w z : List ℕ)
    → Reads value L s w → Reads value M s z → Reads value (L ++ M) s (w ++ z)
reads_append value [] M s [] z h k = k
reads_append value [] M s (c ∷ w) z h k = absurd h
reads_append value (t ∷ L) M s [] z h k = absurd h
reads_append value (t ∷ L) M s (c ∷ w) z h k = (h.0, reads_append value L M s w z h.1 k)

-- symbols are read as they stand
reads_symbols : {T : Type 0} (value : T → ℕ → Option ℕ) (x : List ℕ) (s : ℕ) → Reads value (map inr x) s x
reads_symbols value [] s = tt
reads_symbols value (c ∷ x) s = (refl, reads_symbols value x s)

-- terms are read as their values
reads_values : {T : Type 0} (value : T → ℕ → Option ℕ) (L : List T) (s : ℕ) (w : List ℕ)
    → values value L s ≡ Some w → Reads value (map inl L) s w
unfolding values
reads_values value [] s [] e = tt
reads_values value [] s (c ∷ w) e = grind arith
reads_values value (t ∷ L) s [] e = grind arith
reads_values value (t ∷ L) s (c ∷ w) e = let ih = reads_values value L s w in grind arith

-- a whole output: what stands before, the terms, and what comes behind
abbrev whole : {T : Type 0} → List ℕ → List T → List ℕ → List (T ⊎ ℕ)
whole x L v = map inr x ++ (map inl L ++ map inr v)

-- a whole output is read as its three parts
whole_reads : {T : Type 0} (value : T → ℕ → Option ℕ) (x : List ℕ) (L : List T) (v : List ℕ) (s : ℕ) (w : List ℕ)
    → values value L s ≡ Some w → Reads value (whole x L v) s (x ++ (w ++ v))
whole_reads value x L v s w e =
    reads_append value (map inr x) (map inl L ++ map inr v) s x (w ++ v) (reads_symbols value x s)
    (reads_append value (map inl L) (map inr v) s w v (reads_values value L s w e) (reads_symbols value v s))

-- symbols are fit
fit_symbols : {T : Type 0} (Good : T → Type 0) (x : List ℕ) → AllByRecursion (Fit Good) (map inr x)
fit_symbols Good [] = tt
fit_symbols Good (c ∷ x) = (tt, fit_symbols Good x)

-- good terms are fit
fit_terms : {T : Type 0} (Good : T → Type 0) (L : List T) → AllByRecursion Good L → AllByRecursion (Fit Good) (map inl L)
fit_terms Good [] g = tt
fit_terms Good (t ∷ L) g = (g.0, fit_terms Good L g.1)

-- a whole output of good terms is fit
whole_fit : {T : Type 0} (Good : T → Type 0) (x : List ℕ) (L : List T) (v : List ℕ) → AllByRecursion Good L → AllByRecursion (Fit Good) (whole x L v)
whole_fit Good x L v g =
    All-append (Fit Good) (map inr x) (map inl L ++ map inr v) (fit_symbols Good x)
    (All-append (Fit Good) (map inl L) (map inr v) (fit_terms Good L g) (fit_symbols Good v))

module _ {T : Type 0} {size : ℕ} {Good : T → Type 0} {value : T → ℕ → Option ℕ} {constant : ℕ → T}
    (law : TermLaws size Good value constant) (e f s : ℕ) (apart : e ≡ f → ⊥) where
  -- a term that has one value at two symbols has it wherever it has one
  constant_forced : (t : T) → Good t → (c k : ℕ) → value t e ≡ Some c → value t f ≡ Some c → value t s ≡ Some k → k ≡ c
  constant_forced t g c k h i j =
      let here = law.symbols t g e c h in
      let there = law.symbols t g f c i in
      let last = law.symbols t g s k j in
      law.twice t (constant c) g (law.constant_good c here.1) e f s apart c c k c
      h (law.constant_value c e here.1 here.0)
      i (law.constant_value c f here.1 there.0)
      j (law.constant_value c s here.1 last.0)

  -- two pieces with equal values at two symbols have equal values wherever both have one
  piece_twice : (t t' : T ⊎ ℕ) → Fit Good t → Fit Good t' → (c d k k' : ℕ)
      → value_of value t e ≡ Some c → value_of value t' e ≡ Some c → value_of value t f ≡ Some d → value_of value t' f ≡ Some d
      → value_of value t s ≡ Some k → value_of value t' s ≡ Some k' → k ≡ k'
  piece_twice (inl t) (inl t') g g' c d k k' h h' i i' j j' = law.twice t t' g g' e f s apart c d k k' h h' i i' j j'
  piece_twice (inl t) (inr x) g g' c d k k' h h' i i' j j' =
      let o = constant_forced t g x k (h ∙ sym h') (i ∙ sym i') j in grind arith
  piece_twice (inr x) (inl t) g g' c d k k' h h' i i' j j' =
      let o = constant_forced t g' x k' (h' ∙ sym h) (i' ∙ sym i) j' in grind arith
  piece_twice (inr x) (inr y) g g' c d k k' h h' i i' j j' = grind arith

  -- two words that read alike at two symbols read alike wherever both can be read
  reads_twice : (L M : List (T ⊎ ℕ)) → AllByRecursion (Fit Good) L → AllByRecursion (Fit Good) M → (x y z z' : List ℕ)
      → Reads value L e x → Reads value M e x → Reads value L f y → Reads value M f y
      → Reads value L s z → Reads value M s z' → z ≡ z'
  reads_twice [] [] g g' x y [] [] h h' i i' j j' = refl
  reads_twice [] [] g g' x y [] (c ∷ z') h h' i i' j j' = absurd j'
  reads_twice [] [] g g' x y (c ∷ z) z' h h' i i' j j' = absurd j
  reads_twice [] (t' ∷ M) g g' [] y z z' h h' i i' j j' = absurd h'
  reads_twice [] (t' ∷ M) g g' (c ∷ x) y z z' h h' i i' j j' = absurd h
  reads_twice (t ∷ L) [] g g' [] y z z' h h' i i' j j' = absurd h
  reads_twice (t ∷ L) [] g g' (c ∷ x) y z z' h h' i i' j j' = absurd h'
  reads_twice (t ∷ L) (t' ∷ M) g g' [] y z z' h h' i i' j j' = absurd h
  reads_twice (t ∷ L) (t' ∷ M) g g' (c ∷ x) [] z z' h h' i i' j j' = absurd i
  reads_twice (t ∷ L) (t' ∷ M) g g' (c ∷ x) (d ∷ y) [] z' h h' i i' j j' = absurd j
  reads_twice (t ∷ L) (t' ∷ M) g g' (c ∷ x) (d ∷ y) (k ∷ z) [] h h' i i' j j' = absurd j'
  reads_twice (t ∷ L) (t' ∷ M) g g' (c ∷ x) (d ∷ y) (k ∷ z) (k' ∷ z') h h' i i' j j' =
      let first = piece_twice t t' g.0 g'.0 c d k k' h.0 h'.0 i.0 i'.0 j.0 j'.0 in
      let rest = reads_twice L M g.1 g'.1 x y z z' h.1 h'.1 i.1 i'.1 j.1 j'.1 in
      cc

  -- outputs by terms that are equal at two symbols are equal at every one, whatever stands before and behind
  pub outputs_twice : (L M : List T) → AllByRecursion Good L → AllByRecursion Good M → (x y x₁ y₁ x₂ y₂ x₃ y₃ : List ℕ)
      → values value L e ≡ Some x₁ → values value M e ≡ Some y₁ → values value L f ≡ Some x₂ → values value M f ≡ Some y₂
      → values value L s ≡ Some x₃ → values value M s ≡ Some y₃ → (v w : List ℕ)
      → x ++ (x₁ ++ v) ≡ y ++ (y₁ ++ w) → x ++ (x₂ ++ v) ≡ y ++ (y₂ ++ w) → x ++ (x₃ ++ v) ≡ y ++ (y₃ ++ w)
  outputs_twice L M g g' x y x₁ y₁ x₂ y₂ x₃ y₃ h h' i i' j j' v w same₁ same₂ =
      reads_twice (whole x L v) (whole y M w) (whole_fit Good x L v g) (whole_fit Good y M w g')
      (x ++ (x₁ ++ v)) (x ++ (x₂ ++ v)) (x ++ (x₃ ++ v)) (y ++ (y₃ ++ w))
      (whole_reads value x L v e x₁ h) (rw same₁ (whole_reads value y M w e y₁ h'))
      (whole_reads value x L v f x₂ i) (rw same₂ (whole_reads value y M w f y₂ i'))
      (whole_reads value x L v s x₃ j) (whole_reads value y M w s y₃ j')
