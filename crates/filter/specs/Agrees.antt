-- The two meanings of a filter agree: what it writes, as a relation, is what its machine does to a text.
use Rattle.std.specs.Prelude.{◌≡◌, ℕ, List, Some, None}
use Rattle.machine.specs.Machine.{transduced}
use Rattle.alphabet.specs.Model.{Model}
use Rattle.table.specs.Table.{Table}
use Rattle.filter.specs.Machines.{machine_of}
use Rattle.filter.specs.Meaning.{Writes}

pub record Agrees {G T : Type 0} (m : Model G T) (F : Table G T) : Type 0 where
  -- the filter writes v for a text where its machine does, and only there
  pub writes_transduced : (u v : List ℕ) → Writes m F u v → transduced (machine_of m F) u ≡ Some v
  pub transduced_writes : (u v : List ℕ) → transduced (machine_of m F) u ≡ Some v → Writes m F u v
  -- it writes nothing for a text where its machine rejects it, and only there
  pub rejected_writes_nothing : (u : List ℕ) → transduced (machine_of m F) u ≡ None → (v : List ℕ) → Writes m F u v → ⊥
  pub writes_nothing_rejected : (u : List ℕ) → ((v : List ℕ) → Writes m F u v → ⊥) → transduced (machine_of m F) u ≡ None
