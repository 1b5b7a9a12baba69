-- What a case says of filters, the statement that it stands for, and the test that shows it.
use Rattle.std.specs.Prelude.{◌≡◌, ℕ, Bool, true, false, ◌&&◌, List, [], ◌∷◌, Some, Ok, Err, ◌==◌}
use Rattle.std.specs.List.{AllByRecursion}
use Rattle.machine.specs.Machine.{transduced}
use Rattle.alphabet.specs.Model.{Model}
use Rattle.alphabet.specs.declared.cause.Cause.{Cause}
use Rattle.alphabet.specs.declared.cause.Cause.TheVariants.{NoSymbols, BeyondSize, OutOfBounds, NotSuiting}
use Rattle.table.specs.declared.fault.TableFault.{TableFault}
use Rattle.table.specs.declared.fault.TableFault.TheVariants.{Limits, BadState, MissingState, UnsoundGuard, LongOutput, OutputCount, NotConstant, UnsoundOutput, Overlap}
use Rattle.table.specs.Table.{Table}
use Rattle.table.specs.Check.{Checked, checked}
use Rattle.table.specs.Sound.{Sound}
use Rattle.filter.specs.Machines.{machine_of}
use Rattle.filter.specs.Meaning.{Writes, Equivalent}
use Rattle.equivalence.specs.Decided.{Decided}
use Rattle.certificates.specs.Same.{same_output}
use Rattle.certificates.specs.Points.{Point}
use Rattle.certificates.specs.Certificates.{certified}
use Rattle.certificates.specs.Earliest.{differs_at}

-- A claim about filters of one alphabet.
pub data Claim (G T : Type 0) : Type 0 where
  -- the filters have no fault
  Faultless : List (Table G T) → Claim G T
  -- the first fault is that this output does not suit its guard
  Unsuited : Table G T → ℕ → Claim G T
  -- the filter writes the second text for the first
  Written : Table G T → List ℕ → List ℕ → Claim G T
  -- the filters are equivalent, by these points
  AreEquivalent : Table G T → Table G T → List Point → Claim G T
  -- the filters differ at the text, and at no earlier one
  DifferAt : Table G T → Table G T → List ℕ → Claim G T

-- no fault
abbrev pub passes : Checked → Bool
passes (Ok x) = true
passes (Err f) = false

-- whether the cause is that a term does not suit
abbrev pub is_not_suiting : Cause → Bool
is_not_suiting NoSymbols = false
is_not_suiting BeyondSize = false
is_not_suiting OutOfBounds = false
is_not_suiting NotSuiting = true

-- whether the fault is that output k does not suit
abbrev pub is_unsuited : ℕ → TableFault → Bool
is_unsuited k Limits = false
is_unsuited k (BadState q) = false
is_unsuited k (MissingState i) = false
is_unsuited k (UnsoundGuard i c) = false
is_unsuited k (LongOutput i) = false
is_unsuited k OutputCount = false
is_unsuited k (NotConstant j) = false
is_unsuited k (UnsoundOutput j c) = j == k && is_not_suiting c
is_unsuited k (Overlap i) = false

-- whether that is what the check finds
abbrev pub stops_at : ℕ → Checked → Bool
stops_at k (Ok x) = false
stops_at k (Err f) = is_unsuited k f

module _ {G T : Type 0} (m : Model G T) where
  -- the statement that a claim stands for
  abbrev pub Means : Claim G T → Type 0
  Means (Faultless filters) = AllByRecursion (Sound m) filters
  Means (Unsuited F k) = checked m F ≡ Err (UnsoundOutput k NotSuiting)
  Means (Written F u v) = Writes m F u v
  Means (AreEquivalent F H points) = Equivalent m F H
  Means (DifferAt F H t) = Decided m F H (Some t)

  -- every filter of the list is sound
  unfoldable pub all_faultless : List (Table G T) → Bool
  all_faultless [] = true
  all_faultless (F ∷ filters) = passes (checked m F) && all_faultless filters

  -- both filters are sound
  abbrev pub both_pass : Table G T → Table G T → Bool
  both_pass F H = passes (checked m F) && passes (checked m H)

  -- the test of a claim
  unfoldable pub tested : Claim G T → Bool
  tested (Faultless filters) = all_faultless filters
  tested (Unsuited F k) = stops_at k (checked m F)
  tested (Written F u v) = passes (checked m F) && same_output (transduced (machine_of m F) u) (Some v)
  tested (AreEquivalent F H points) = both_pass F H && certified (machine_of m F) (machine_of m H) m.size points
  tested (DifferAt F H t) = both_pass F H && differs_at (machine_of m F) (machine_of m H) m.size t

  -- every claim of the list passes its test
  unfoldable pub all_tested : List (Claim G T) → Bool
  all_tested [] = true
  all_tested (c ∷ cs) = tested c && all_tested cs
