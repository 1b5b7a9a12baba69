-- Putting a sound filter on a shelf that can be read: what is answered, and what is left there.
use Rattle.std.specs.Prelude.{◌≡◌, ℕ, ◌+◌, true, false, Ok, Err, Result}
use Rattle.alphabet.specs.Model.{Model}
use Rattle.table.specs.Table.{Table}
use Rattle.filter.specs.Meaning.{Equivalent}
use Rattle.answers.specs.declared.fault.Fault.{Fault}
use Rattle.answers.specs.declared.fault.Fault.TheVariants.{ShortScratch, Double, Full}
use Rattle.holdings.specs.Memory.{Memory}
use Rattle.holdings.specs.Append.{room_for, appended}
use Rattle.shelf_law.specs.Holdings.{EveryHolding, NoHolding, Lowest}
use Rattle.shelf_law.specs.Scratch.{Scratch, Enough, Short}

-- One case for each answer. Scratch comes first, against every holding; then doubles; then room. A refusal leaves the
-- memory as it was.
pub data Placing {G T : Type 0} (m : Model G T) (S : Scratch) (M : Memory G T) (F : Table G T) : Result ℕ Fault → Memory G T → Type 0 where
  -- the scratch is too small against a holding, and the lowest such is named
  short_scratch : (n : ℕ) → Lowest M (Short m S F) n → Placing m S M F (Err (ShortScratch n)) M
  -- a holding is equivalent to the filter, and the lowest such is named
  double : (n : ℕ) → EveryHolding M (Enough m S F) → Lowest M (Equivalent m F) n → Placing m S M F (Err (Double n)) M
  -- no holding is, but there is no room for one more
  full : EveryHolding M (Enough m S F) → NoHolding M (Equivalent m F) → room_for M F ≡ false → Placing m S M F (Err Full) M
  -- the filter is held under the next number, behind the others
  held : EveryHolding M (Enough m S F) → NoHolding M (Equivalent m F) → room_for M F ≡ true → Placing m S M F (Ok (M.head.holdings + 1)) (appended M F)

-- answer and memory are determined
abbrev pub OneAnswer : {G T : Type 0} → Model G T → Type 0
OneAnswer {G} {T} m = (S : Scratch) (M : Memory G T) (F : Table G T) (r s : Result ℕ Fault) (A B : Memory G T)
    → Placing m S M F r A → Placing m S M F s B → (r ≡ s) × (A ≡ B)
