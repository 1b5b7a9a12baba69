-- What a call that puts a filter on a shelf answers, and what it leaves there.
use Rattle.std.specs.Prelude.{◌≡◌, ℕ, ◌+◌, ◌<◌, Bool, true, false}
use Rattle.alphabet.specs.Model.{Model}
use Rattle.table.specs.Table.{Table}
use Rattle.filter.specs.Meaning.{Equivalent}
use Rattle.holdings.specs.Memory.{Memory, holding}
use Rattle.holdings.specs.Append.{room_for, appended}

-- The answer of a call; holdings are numbered from 1. All but the first are refusals.
pub data Answer : Type 0 where
  -- the filter is held, under this number
  Held : ℕ → Answer
  -- the shelf cannot be read
  Unreadable : Answer
  -- there is no filter to put there: it is unsound, or there is nothing to join, or the join is too large
  NoFilter : Answer
  -- the scratch is too small to compare the filter with this holding
  ShortScratch : ℕ → Answer
  -- the filter is a double of this holding
  Double : ℕ → Answer
  -- there is no room for one more holding
  Full : Answer

module _ {G T : Type 0} (M : Memory G T) (P : Table G T → Type 0) where
  -- n is the number of the lowest holding of this kind
  pub record Lowest (n : ℕ) : Type 0 where
    pub place : ℕ
    pub number : n ≡ place + 1
    pub within : place < M.head.holdings
    pub here : P (holding M place)
    pub none_below : (j : ℕ) → j < place → P (holding M j) → ⊥

  -- no holding is of this kind
  abbrev pub NoHolding : Type 0
  NoHolding = (i : ℕ) → i < M.head.holdings → P (holding M i) → ⊥

-- the scratch is too small to compare a filter with a holding; how much is enough depends on the sizes of the two
abbrev pub Short : {G T : Type 0} → (Table G T → Table G T → Bool) → Table G T → Table G T → Type 0
Short enough F H = enough F H ≡ false

module _ {G T : Type 0} (m : Model G T) (enough : Table G T → Table G T → Bool) (M : Memory G T) (F : Table G T) where
  -- One call with the sound filter F on a shelf that can be read: its answer, and the memory then. Scratch comes first,
  -- against every holding; then doubles; then room. A refusal leaves everything as it was. The first two are no answers
  -- to such a call.
  abbrev pub Filing : Answer → Memory G T → Type 0
  Filing Unreadable after = ⊥
  Filing NoFilter after = ⊥
  Filing (ShortScratch n) after = Lowest M (Short enough F) n × (after ≡ M)
  Filing (Double n) after = NoHolding M (Short enough F) × Lowest M (Equivalent m F) n × (after ≡ M)
  Filing Full after = NoHolding M (Short enough F) × NoHolding M (Equivalent m F) × (room_for M F ≡ false) × (after ≡ M)
  Filing (Held n) after =
      NoHolding M (Short enough F) × NoHolding M (Equivalent m F) × (room_for M F ≡ true) × (n ≡ M.head.holdings + 1) × (after ≡ appended M F)

-- answer and memory of a filing are determined
abbrev pub OneAnswer : {G T : Type 0} → Model G T → Type 0
OneAnswer {G} {T} m = (enough : Table G T → Table G T → Bool) (M : Memory G T) (F : Table G T) (r s : Answer) (A B : Memory G T)
    → Filing m enough M F r A → Filing m enough M F s B → (r ≡ s) × (A ≡ B)
