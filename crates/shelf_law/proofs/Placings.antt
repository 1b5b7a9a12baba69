-- A sound filter put on a shelf has one answer, and leaves one memory.
use Rattle.std.proofs.Common.{◌≡◌, ℕ, ◌+◌, ◌<◌, ◌⊎◌, Err, Result, sym, refl, ap, ◌∙◌, inl, inr, arith}
use Rattle.alphabet.specs.Model.{Model}
use Rattle.table.specs.Table.{Table}
use Rattle.filter.specs.Meaning.{Equivalent}
use Rattle.answers.specs.declared.fault.Fault.{Fault}
use Rattle.answers.specs.declared.fault.Fault.TheVariants.{ShortScratch, Double}
use Rattle.holdings.specs.Memory.{Memory}
use Rattle.shelf_law.specs.Holdings.{EveryHolding, NoHolding, Lowest}
use Rattle.shelf_law.specs.Scratch.{Scratch, Enough, Short}
use Rattle.shelf_law.specs.Placing.{Placing, short_scratch, double, full, held}

module _ {G T : Type 0} (M : Memory G T) (P : Table G T → Type 0) where
  -- the lowest holding of a kind is one
  lowest_one : (n k : ℕ) → Lowest M P n → Lowest M P k → n ≡ k
  lowest_one n k x y = go (grind arith)
    where
      go : (x.place < y.place) ⊎ ((y.place < x.place) ⊎ (x.place ≡ y.place)) → n ≡ k
      go (inl l) = absurd (y.none_below x.place l x.here)
      go (inr (inl l)) = absurd (x.none_below y.place l y.here)
      go (inr (inr same)) = x.number ∙ ap (λ i. i + 1) same ∙ sym y.number

  -- and where no holding is of the kind, there is no lowest
  none_lowest : NoHolding M P → (n : ℕ) → Lowest M P n → ⊥
  none_lowest none n x = none x.place x.within x.here

module _ {G T : Type 0} (m : Model G T) (S : Scratch) (M : Memory G T) (F : Table G T) where
  -- scratch that is enough is not short
  pub enough_long : EveryHolding M (Enough m S F) → NoHolding M (Short m S F)
  enough_long enough i within short = let e = enough i within in grind arith

  -- where no holding is equivalent there is no double, and scratch that is enough is not too small
  no_double : NoHolding M (Equivalent m F) → (n : ℕ) → Lowest M (Equivalent m F) n → ⊥
  no_double = none_lowest M (Equivalent m F)

  no_short : EveryHolding M (Enough m S F) → (n : ℕ) → Lowest M (Short m S F) n → ⊥
  no_short enough = none_lowest M (Short m S F) (enough_long enough)

  -- the answer and the memory that is left are determined
  pub placing_one : (r s : Result ℕ Fault) (A B : Memory G T) → Placing m S M F r A → Placing m S M F s B → (r ≡ s) × (A ≡ B)
  placing_one r s A B (short_scratch n x) (short_scratch k y) = (ap (λ i. Err (ShortScratch i)) (lowest_one M (Short m S F) n k x y), refl)
  placing_one r s A B (short_scratch n x) (double k e y) = absurd (no_short e n x)
  placing_one r s A B (short_scratch n x) (full e y o) = absurd (no_short e n x)
  placing_one r s A B (short_scratch n x) (held e y o) = absurd (no_short e n x)
  placing_one r s A B (double n e x) (short_scratch k y) = absurd (no_short e k y)
  placing_one r s A B (double n e x) (double k f y) = (ap (λ i. Err (Double i)) (lowest_one M (Equivalent m F) n k x y), refl)
  placing_one r s A B (double n e x) (full f y o) = absurd (no_double y n x)
  placing_one r s A B (double n e x) (held f y o) = absurd (no_double y n x)
  placing_one r s A B (full e x o) (short_scratch k y) = absurd (no_short e k y)
  placing_one r s A B (full e x o) (double k f y) = absurd (no_double x k y)
  placing_one r s A B (full e x o) (full f y p) = (refl, refl)
  placing_one r s A B (full e x o) (held f y p) = absurd (grind arith)
  placing_one r s A B (held e x o) (short_scratch k y) = absurd (no_short e k y)
  placing_one r s A B (held e x o) (double k f y) = absurd (no_double x k y)
  placing_one r s A B (held e x o) (full f y p) = absurd (grind arith)
  placing_one r s A B (held e x o) (held f y p) = (refl, refl)
