-- What transducing promises, in the words of paths and of what a filter writes.
use Rattle.std.specs.Prelude.{◌≡◌, ℕ, ◌<◌, ◌≤◌, List, ◌++◌, length, drop, Ok, Err, Result}
use Rattle.alphabet.specs.Model.{Model}
use Rattle.table.specs.Table.{Table}
use Rattle.table.specs.Check.{Checked, checked}
use Rattle.table.specs.Sound.{Sound}
use Rattle.filter.specs.declared.outcome.Outcome.{Outcome}
use Rattle.filter.specs.declared.outcome.Outcome.TheVariants.{Written, Rejected}
use Rattle.filter.specs.declared.outcome.TransduceFault.{TransduceFault}
use Rattle.filter.specs.declared.outcome.TransduceFault.TheVariants.{Unsound, LongText, ShortOutput}
use Rattle.filter.specs.Meaning.{Writes}
use Rattle.filter.specs.Rejects.{Rejects}

-- the fault of the table, where it has one, and else the later answer
abbrev pub after_check : Checked → Result Outcome TransduceFault → Result Outcome TransduceFault
after_check (Ok x) later = later
after_check (Err f) later = Err (Unsound f)

module _ {G T : Type 0} (m : Model G T) (F : Table G T) (text before after : List ℕ) where
  -- a sound filter was put to work on a text that is not too long
  pub record Worked : Type 0 where
    pub sound : Sound m F
    pub short : length text ≤ 1048576

  -- the filter writes n symbols for the text on a path to q, and they stand at the front of the output
  pub record Wrote (q n : ℕ) : Type 0 where
    pub worked : Worked
    pub symbols : List ℕ
    pub writes : Writes m F text symbols
    pub reached : writes.end ≡ q
    pub count : length symbols ≡ n
    pub output : after ≡ symbols ++ drop n before

  -- the filter rejects the text at n and writes nothing for it; the output is as it was
  pub record Turned (n : ℕ) : Type 0 where
    pub worked : Worked
    pub rejects : Rejects m F text n
    pub nothing : (v : List ℕ) → Writes m F text v → ⊥
    pub output : after ≡ before

  -- the filter writes n symbols for the text, for which the output is too short; it is as it was
  pub record Short (n : ℕ) : Type 0 where
    pub worked : Worked
    pub symbols : List ℕ
    pub writes : Writes m F text symbols
    pub count : length symbols ≡ n
    pub room : length before < n
    pub output : after ≡ before

  -- each answer with what it says
  abbrev pub Transduces : Result Outcome TransduceFault → Type 0
  Transduces (Ok (Written q n)) = Wrote q n
  Transduces (Ok (Rejected n)) = Turned n
  Transduces (Err (Unsound f)) = (checked m F ≡ Err f) × (after ≡ before)
  Transduces (Err LongText) = Sound m F × (1048576 < length text) × (after ≡ before)
  Transduces (Err (ShortOutput n)) = Short n
