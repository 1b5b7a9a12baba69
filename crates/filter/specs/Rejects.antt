-- Where a filter rejects a text: the symbol that it has no move on, or the end of the text.
use Rattle.std.specs.Prelude.{◌≡◌, ℕ, ◌<◌, ◌≤◌, ◌⊎◌, List, length, take, slice_index}
use Rattle.alphabet.specs.Model.{Model}
use Rattle.table.specs.Table.{Table}
use Rattle.filter.specs.Meaning.{Move, Path, Final}

module _ {G T : Type 0} (m : Model G T) (F : Table G T) where
  -- from q there is no move on the symbol at n; or the text ends at n, and q writes no final output
  abbrev pub Stops : ℕ → List ℕ → ℕ → Type 0
  Stops q text n =
      ((n < length text) × ((v : List ℕ) (r : ℕ) → Move m F q (slice_index text n) v r → ⊥))
      ⊎ ((n ≡ length text) × ((v : List ℕ) → Final m F q v → ⊥))

  -- the first n symbols of the text lead from p to a state in which the filter stops
  pub record RejectsFrom (p : ℕ) (text : List ℕ) (n : ℕ) : Type 0 where
    pub state : ℕ
    pub on_the_way : List ℕ
    pub within : n ≤ length text
    pub path : Path m F p (take n text) on_the_way state
    pub stops : Stops state text n

  -- the filter, which starts in state 0, rejects the text at n
  abbrev pub Rejects : List ℕ → ℕ → Type 0
  Rejects text n = RejectsFrom 0 text n
