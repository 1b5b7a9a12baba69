-- What cleaning a note promises.
use Rattle.std.specs.Prelude.{◌≡◌, ℕ, ◌<◌, List, [], length, Ok, Err, vec_items, Result, Vec}
use Rattle.std.specs.declared.alloc.Global.{Global}
use Rattle.alphabet.specs.Model.{Model}
use Rattle.table.specs.Table.{Table}
use Rattle.table.specs.Check.{checked}
use Rattle.table.specs.Sound.{Sound}
use Rattle.filter.specs.declared.outcome.Outcome.{Outcome}
use Rattle.filter.specs.declared.outcome.Outcome.TheVariants.{Written, Rejected}
use Rattle.filter.specs.declared.outcome.TransduceFault.{TransduceFault}
use Rattle.filter.specs.declared.outcome.TransduceFault.TheVariants.{Unsound, LongText, ShortOutput}
use Rattle.filter.specs.Meaning.{Writes}
use Rattle.filter.specs.Rejects.{Rejects}
use Rattle.cleaning.specs.declared.CleanFault.{CleanFault}
use Rattle.cleaning.specs.declared.CleanFault.TheVariants.{Refused, NoMemory}

module _ {G T : Type 0} (m : Model G T) (F : Table G T) (text : List ℕ) where
  -- the output is what the filter writes for the text; or it is empty, and the filter writes nothing
  abbrev pub Cleaned : Outcome → List ℕ → Type 0
  Cleaned (Written q n) out = Writes m F text out × (length out ≡ n)
  Cleaned (Rejected n) out = Rejects m F text n × ((v : List ℕ) → Writes m F text v → ⊥) × (out ≡ [])

  -- only an unsound table and a text that is too long are refused
  abbrev pub Refuses : TransduceFault → Type 0
  Refuses (Unsound f) = checked m F ≡ Err f
  Refuses LongText = Sound m F × (1048576 < length text)
  Refuses (ShortOutput n) = ⊥

  abbrev pub Cleans : Result (Outcome × Vec ℕ Global) CleanFault → Type 0
  Cleans (Ok r) = Cleaned r.0 (vec_items r.1)
  Cleans (Err (Refused f)) = Refuses f
  Cleans (Err NoMemory) = Unit {0}
