-- What comparing two filters answers.
use Rattle.std.specs.Prelude.{◌≡◌, ℕ, Some, None, Ok, Err, vec_items, Option, Result, Vec}
use Rattle.std.specs.declared.alloc.Global.{Global}
use Rattle.alphabet.specs.Model.{Model}
use Rattle.table.specs.Table.{Table}
use Rattle.table.specs.Check.{checked}
use Rattle.equivalence.specs.Decided.{Decided}
use Rattle.comparing.specs.declared.CompareFault.{CompareFault}
use Rattle.comparing.specs.declared.CompareFault.TheVariants.{First, Second, NoMemory}

module _ {G T : Type 0} (m : Model G T) (F H : Table G T) where
  -- none where the filters are equivalent, else the earliest distinguishing text; an unsound table is named
  abbrev pub Compares : Result (Option (Vec ℕ Global)) CompareFault → Type 0
  Compares (Ok None) = Decided m F H None
  Compares (Ok (Some v)) = Decided m F H (Some (vec_items v))
  Compares (Err (First f)) = checked m F ≡ Err f
  Compares (Err (Second f)) = checked m H ≡ Err f
  Compares (Err NoMemory) = Unit {0}
