-- Comparing two holdings of a shelf: what is answered, and what the witness then holds.
use Rattle.std.specs.Prelude.{◌≡◌, ℕ, ◌<◌, ◌≤◌, List, ◌++◌, length, drop, Ok, Err, Result, ◌≢◌}
use Rattle.machine.specs.Shortlex.{Earlier}
use Rattle.alphabet.specs.Model.{Model}
use Rattle.table.specs.Table.{Table}
use Rattle.filter.specs.Meaning.{SameOn, Equivalent}
use Rattle.answers.specs.declared.comparison.Comparison.{Comparison}
use Rattle.answers.specs.declared.comparison.Comparison.TheVariants.{Equivalent as AreEquivalent, Distinguished}
use Rattle.answers.specs.declared.fault.Fault.{Fault}
use Rattle.answers.specs.declared.fault.Fault.TheVariants.{ShortScratch, TooShort, NoHolding as NoneNumbered}
use Rattle.equivalence.specs.Answers.{steps_for}
use Rattle.holdings.specs.Memory.{Memory}
use Rattle.holdings.specs.Check.{checked_shelf}
use Rattle.shelf_law.specs.Holdings.{Has, numbered}
use Rattle.shelf_law.specs.Scratch.{Scratch, Enough, Short}
use Rattle.shelf_law.specs.Calls.{Readable}

-- the text distinguishes the two filters, and no earlier one does: it is the earliest of the shortest that do
pub record Earliest {G T : Type 0} (m : Model G T) (F H : Table G T) (text : List ℕ) : Type 0 where
  pub distinguishes : SameOn m F H text → ⊥
  pub none_earlier : (y : List ℕ) → Earlier y text → SameOn m F H y

-- Two sound filters compared, the second of which is the holding of number n: one case for each answer, in the order in
-- which faults are looked for; w is the witness as it was.
pub data Compared {G T : Type 0} (m : Model G T) (S : Scratch) (F H : Table G T) (n : ℕ) (w : List ℕ) : Result Comparison Fault → List ℕ → Type 0 where
  short_scratch : Short m S F H → Compared m S F H n w (Err (ShortScratch n)) w
  -- the witness is too short, whatever the answer would be
  short_witness : Enough m S F H → length w < steps_for m F H → Compared m S F H n w (Err (TooShort (steps_for m F H))) w
  equivalent : Enough m S F H → steps_for m F H ≤ length w → Equivalent m F H → Compared m S F H n w (Ok AreEquivalent) w
  -- the text, which is shorter than the witness has to be, stands at the front of the witness; the rest is as it was
  distinguished : Enough m S F H → steps_for m F H ≤ length w → (text : List ℕ) → length text < steps_for m F H → Earliest m F H text
      → Compared m S F H n w (Ok (Distinguished (length text))) (text ++ drop (length text) w)

-- Two holdings of a shelf compared.
pub data Compares {G T : Type 0} (m : Model G T) (S : Scratch) (M : Memory G T) (i j : ℕ) (w : List ℕ) : Result Comparison Fault → List ℕ → Type 0 where
  unreadable : (f : Fault) → checked_shelf m M ≡ Err f → Compares m S M i j w (Err f) w
  no_first : Readable m M → (Has M i → ⊥) → Compares m S M i j w (Err (NoneNumbered i)) w
  no_second : Readable m M → Has M i → (Has M j → ⊥) → Compares m S M i j w (Err (NoneNumbered j)) w
  compared : Readable m M → Has M i → Has M j → (r : Result Comparison Fault) (after : List ℕ) → Compared m S (numbered M i) (numbered M j) j w r after → Compares m S M i j w r after

-- an answer that gives the earliest of the shortest texts that distinguish the two holdings, at the front of the witness
pub record Told {G T : Type 0} (m : Model G T) (M : Memory G T) (i j : ℕ) (w : List ℕ) (r : Result Comparison Fault) (after : List ℕ) : Type 0 where
  pub text : List ℕ
  pub answer : r ≡ Ok (Distinguished (length text))
  pub witness : after ≡ text ++ drop (length text) w
  pub earliest : Earliest m (numbered M i) (numbered M j) text

-- comparing two different holdings of a shelf, with scratch and witness enough, tells them apart
abbrev pub ToldApart : {G T : Type 0} → Model G T → Memory G T → Type 0
ToldApart m M = (S : Scratch) (i j : ℕ) (w : List ℕ) (r : Result Comparison Fault) (after : List ℕ) → Compares m S M i j w r after
    → Has M i → Has M j → (i ≢ j) → Enough m S (numbered M i) (numbered M j) → steps_for m (numbered M i) (numbered M j) ≤ length w → Told m M i j w r after
