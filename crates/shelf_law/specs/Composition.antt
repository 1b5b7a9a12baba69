-- Doing what one filter does and then what another does to that.
use Rattle.std.specs.Prelude.{◌≡◌, ℕ, ◌⊎◌, List, Ok, Err, Result}
use Rattle.alphabet.specs.Model.{Model}
use Rattle.table.specs.Table.{Table}
use Rattle.filter.specs.Meaning.{Writes}
use Rattle.answers.specs.declared.fault.Fault.{Fault}
use Rattle.answers.specs.declared.fault.Fault.TheVariants.{Double}
use Rattle.holdings.specs.Memory.{Memory}
use Rattle.shelf_law.specs.Holdings.{numbered}

-- J writes v for u exactly where F writes some t for u and H writes v for t; so it rejects what either rejects
pub record Composition {G T : Type 0} (m : Model G T) (F H J : Table G T) : Type 0 where
  pub splits : (u v : List ℕ) → Writes m J u v → (t : List ℕ) × Writes m F u t × Writes m H t v
  pub joins : (u t v : List ℕ) → Writes m F u t → Writes m H t v → Writes m J u v

-- where a joining of the holdings i and j was answered with a number, held or as a double, the holding of that number
-- then does what i does and then j
abbrev pub JoinedUnder : {G T : Type 0} → Model G T → Memory G T → ℕ → ℕ → Result ℕ Fault → Memory G T → Type 0
JoinedUnder m M i j r A = (n : ℕ) → (r ≡ Ok n) ⊎ (r ≡ Err (Double n)) → Composition m (numbered M i) (numbered M j) (numbered A n)
