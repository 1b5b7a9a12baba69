-- Collections whose holdings can all be told apart.
use Rattle.std.specs.Prelude.{ℕ, ◌<◌, ◌≤◌}
use Rattle.alphabet.specs.Model.{Model}
use Rattle.holdings.specs.Memory.{Memory, holding}
use Rattle.shelf_law.specs.Scratch.{Scratch, Enough}
use Rattle.shelf_law.specs.Comparing.{ToldApart}

module _ {G T : Type 0} (m : Model G T) (S : Scratch) where
  -- the scratch is enough to compare any two holdings
  abbrev pub Paired : Memory G T → Type 0
  Paired M = (i j : ℕ) → i < j → j < M.head.holdings → Enough m S (holding M i) (holding M j)

  -- comparing two holdings tells them apart, the scratch is enough for it, and so is a witness as long as n
  pub record Separable (n : ℕ) (M : Memory G T) : Type 0 where
    pub told : ToldApart m M
    pub paired : Paired M
    pub witness : S.steps ≤ n
