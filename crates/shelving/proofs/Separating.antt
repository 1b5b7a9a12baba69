-- Two holdings told apart, and one pair more.
use Rattle.std.proofs.Common.{vec_items, ◌≡◌, ℕ, ◌+◌, ◌-◌, ◌<◌, ◌≤◌, List, [], ◌∷◌, ◌++◌, length, take, drop, Ok, Result, sym, ap, ◌∙◌, subst, arith}
use Rattle.std.proofs.lemmas.List.{take_at, length-append}
use Rattle.alphabet.specs.Model.{Model}
use Rattle.answers.specs.declared.comparison.Comparison.{Comparison}
use Rattle.answers.specs.declared.comparison.Comparison.TheVariants.{Distinguished}
use Rattle.answers.specs.declared.fault.Fault.{Fault}
use Rattle.holdings.specs.Memory.{Memory}
use Rattle.equivalence.specs.Answers.{steps_for}
use Rattle.shelf_law.specs.Holdings.{numbered}
use Rattle.shelf_law.specs.Scratch.{Scratch, scratch_of, Enough}
use Rattle.shelf_law.specs.Comparing as comparing
use Rattle.shelf_law.specs.Comparing.{Compares, Earliest}
use Rattle.shelving.specs.declared.report.ToldPair.{ToldPair}
use Rattle.shelving.specs.Runs.{Told, none, row, pair}
use Rattle.shelving.specs.Separable.{Separable}

module _ {G T : Type 0} (m : Model G T) (S : Scratch) (n : ℕ) (M : Memory G T) (ok : Separable m S n M) where
  pub told_pair : (i j : ℕ) → 1 ≤ i → i < j → j ≤ M.head.holdings → (w : List ℕ) → n ≡ length w → (r : Result Comparison Fault) (after : List ℕ) → Compares m S M i j w r after → comparing.Told m M i j w r after
  told_pair i j low order high w size r after C =
      let enough : Enough m S (numbered M i) (numbered M j) = ok.paired (i - 1) (j - 1) (omega arith) (omega arith) in
      let room : steps_for m (numbered M i) (numbered M j) ≤ length w = omega (arith, enough.0, ok.witness, size) in
      ok.told S i j w r after C (low, omega arith) (omega arith, high) (λ e. absurd (omega arith)) enough room

module _ {G T : Type 0} {m : Model G T} {M : Memory G T} {i j : ℕ} {w : List ℕ} {r : Result Comparison Fault} {after : List ℕ} (t : comparing.Told m M i j w r after) where
  -- the answer is no refusal, and the length is that of the text at the front
  pub told_length : (n : ℕ) → r ≡ Ok (Distinguished n) → length t.text ≡ n
  told_length n e = let a = t.answer in cc

  pub told_front : (n : ℕ) → r ≡ Ok (Distinguished n) → take n after ≡ t.text
  told_front n e = ap (take n) t.witness ∙ take_at t.text (drop (length t.text) w) n (told_length n e)

  pub told_within : (n : ℕ) → r ≡ Ok (Distinguished n) → n ≤ length after
  told_within n e = omega (arith, told_length n e, ap length t.witness, length-append t.text (drop (length t.text) w))

module _ {G T : Type 0} (m : Model G T) (M : Memory G T) where
  -- one pair more
  pub told_more : (p : ToldPair) (ps : List ToldPair) → Told m M p.pair.first p.pair.second ps → p.pair.second ≤ M.head.holdings → p.pair.length ≡ length (vec_items p.text)
      → Earliest m (numbered M p.pair.first) (numbered M p.pair.second) (vec_items p.text)
      → (qs : List ToldPair) → qs ≡ ps ++ p ∷ [] → Told m M p.pair.first (p.pair.second + 1) qs
  told_more p ps T high long e qs more = subst (Told m M p.pair.first (p.pair.second + 1)) (sym more) (pair p ps high long e T)

  -- no pair yet, and the next first number
  pub told_none : (ps : List ToldPair) → ps ≡ [] → Told m M 1 2 ps
  told_none ps empty = subst (Told m M 1 2) (sym empty) none

  pub told_row : (i : ℕ) (ps : List ToldPair) → Told m M i (M.head.holdings + 1) ps → Told m M (i + 1) (i + 1 + 1) ps
  told_row i ps T = let next : i + 2 ≡ i + 1 + 1 = omega arith in subst (λ j. Told m M (i + 1) j ps) next (row i (M.head.holdings + 1) ps (omega arith) T)

  -- and where the first number is behind the last holding, all pairs were told apart
  pub told_at : (i : ℕ) (ps : List ToldPair) → i ≡ M.head.holdings + 1 → Told m M i (i + 1) ps → Told m M (M.head.holdings + 1) (M.head.holdings + 2) ps
  told_at i ps all T =
      let next : i + 1 ≡ M.head.holdings + 2 = omega (arith, all) in
      subst (λ j. Told m M (M.head.holdings + 1) j ps) next (subst (λ k. Told m M k (i + 1) ps) all T)

  -- the same scratch and witness by other lengths
  pub separable_at : {n k l : ℕ} (n' k' l' : ℕ) → n ≡ n' → k ≡ k' → l ≡ l' → Separable m (scratch_of n k) l M → Separable m (scratch_of n' k') l' M
  separable_at {n} {k} {l} n' k' l' a b e s =
      subst (λ x. Separable m (scratch_of x k') l' M) a (subst (λ x. Separable m (scratch_of n x) l' M) b (subst (λ x. Separable m (scratch_of n k) x M) e s))
