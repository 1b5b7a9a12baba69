-- The text that a comparison writes to the witness.
use Rattle.std.proofs.Common.{◌≡◌, ℕ, ◌<◌, ◌≤◌, Bool, true, false, cond, leb, List, ◌++◌, length, drop, Some, None, Ok, Decides, sym, ap, ◌∙◌, subst, arith}
use Rattle.std.proofs.lemmas.Bool.Decides.{nat_tests}
use Rattle.alphabet.specs.Model.{Model}
use Rattle.table.specs.Table.{Table}
use Rattle.answers.specs.declared.comparison.Comparison.TheVariants.{Distinguished}
use Rattle.steps.specs.declared.step.Step.{Step}
use Rattle.steps.specs.Steps.{text, length_in, written_to}
use Rattle.equivalence.specs.Answers.{steps_for}
use Rattle.equivalence.specs.Decided.{Decided}
use Rattle.shelf_law.specs.Scratch.{Scratch, Enough, Short}
use Rattle.shelf_law.specs.Comparing.{Compared, distinguished}

-- scratch that is not short is enough
pub long_enough : {G T : Type 0} (m : Model G T) (S : Scratch) (F H : Table G T) (b : Bool) → Decides b (Short m S F H) → b ≡ false → Enough m S F H
long_enough m S F H b told no-it-is-not =
    let long : Short m S F H → ⊥ = λ s. let t = told.1 s in grind (arith, t, no-it-is-not) in
    (grind (arith, long), grind (arith, long))

-- a text that is not longer than the witness is written to it
pub never_short : (t u w : List ℕ) → t ≡ u → length u ≤ length w → None ≡ length_in t (length w) → ⊥
never_short t u w same room none = let size = ap length same in grind (arith, nat_tests, size)

-- a text whose length is answered stands at the front
written_front : (t w after : List ℕ) (n : ℕ) → Some n ≡ length_in t (length w) → after ≡ written_to t w → (length t ≡ n) × (t ++ drop (length t) w ≡ after)
written_front t w after n e is = go (leb (length t) (length w)) e is
  where
    go : (b : Bool) → Some n ≡ cond b (Some (length t)) None → after ≡ cond b (t ++ drop (length t) w) w → (length t ≡ n) × (t ++ drop (length t) w ≡ after)
    go true e is = (cc, sym is)
    go false e is = absurd (grind arith)

module _ {G T : Type 0} (m : Model G T) (S : Scratch) (F H : Table G T) (n : ℕ) (w : List ℕ) where
  -- a step that distinguishes the filters, and its text written to the witness
  pub told_text : Enough m S F H → steps_for m F H ≤ length w → (L K : List Step) (k : ℕ) → K ≡ L → Decided m F H (Some (text L k)) → length (text L k) < steps_for m F H
      → (count : ℕ) (after : List ℕ) → Some count ≡ length_in (text K k) (length w) → after ≡ written_to (text K k) w → Compared m S F H n w (Ok (Distinguished count)) after
  told_text enough room L K k same d short count after answer witness =
      let t = text L k in
      let e = ap (λ X. text X k) same in
      let front = written_front t w after count (answer ∙ ap (λ x. length_in x (length w)) e) (witness ∙ ap (λ x. written_to x w) e) in
      subst (λ c. Compared m S F H n w (Ok (Distinguished c)) after) front.0
      (subst (Compared m S F H n w (Ok (Distinguished (length t)))) front.1 (distinguished enough room t short (record { distinguishes = d.0; none_earlier = d.1 })))
