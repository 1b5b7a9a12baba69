-- The holdings of a shelf by number, and what is said of all, of none or of the lowest of them.
use Rattle.std.specs.Prelude.{◌≡◌, ℕ, ◌+◌, ◌-◌, ◌<◌, ◌≤◌, Some, None, Option}
use Rattle.table.specs.Table.{Table}
use Rattle.holdings.specs.Memory.{Memory, holding}

module _ {G T : Type 0} (M : Memory G T) where
  -- a holding has this number; they are numbered from 1
  abbrev pub Has : ℕ → Type 0
  Has n = (1 ≤ n) × (n ≤ M.head.holdings)

  -- the holding of a number
  abbrev pub numbered : ℕ → Table G T
  numbered n = holding M (n - 1)

  module _ (P : Table G T → Type 0) where
    -- every holding is of this kind
    abbrev pub EveryHolding : Type 0
    EveryHolding = (i : ℕ) → i < M.head.holdings → P (holding M i)

    -- no holding is of this kind
    abbrev pub NoHolding : Type 0
    NoHolding = (i : ℕ) → i < M.head.holdings → P (holding M i) → ⊥

    -- n is the number of the lowest holding of this kind
    pub record Lowest (n : ℕ) : Type 0 where
      pub place : ℕ
      pub number : n ≡ place + 1
      pub within : place < M.head.holdings
      pub here : P (holding M place)
      pub none_below : (j : ℕ) → j < place → P (holding M j) → ⊥

    -- the number of the lowest holding of this kind, or none where there is none
    abbrev pub First : Option ℕ → Type 0
    First None = NoHolding
    First (Some n) = Lowest n
