-- The law of the collection: whatever calls are made, a shelf keeps each filter once.
use Rattle.std.specs.Prelude.{◌≡◌, ℕ, ◌+◌, ◌<◌, true, false, ◌⊎◌, List, ◌∷◌, Ok, Err, Result}
use Rattle.std.specs.List.{AllByRecursion}
use Rattle.alphabet.specs.Model.{Model}
use Rattle.table.specs.Table.{Table}
use Rattle.table.specs.Sound.{Sound}
use Rattle.filter.specs.Meaning.{Equivalent}
use Rattle.answers.specs.declared.fault.Fault.{Fault}
use Rattle.answers.specs.declared.fault.Fault.TheVariants.{Double, Full}
use Rattle.holdings.specs.Memory.{Memory, holding}
use Rattle.holdings.specs.Append.{room_for}
use Rattle.shelf_law.specs.Holdings.{Has, numbered, EveryHolding, NoHolding, Lowest}
use Rattle.shelf_law.specs.Scratch.{Scratch, Enough, HeldBy}
use Rattle.shelf_law.specs.Calls.{Request, Filing, Joining, Readable, joined_at}
use Rattle.shelf_law.specs.Comparing.{ToldApart}
use Rattle.shelf_law.specs.History.{Call, Reached}

module _ {G T : Type 0} (m : Model G T) where
  -- the filter of a request: a filing's draft, or the joined filter of two holdings; a joining of a number that no
  -- holding has has none
  abbrev pub FilterOf : Memory G T → Request G T → Table G T → Type 0
  FilterOf M (Filing D) F = F ≡ D
  FilterOf M (Joining i j L) F = Has M i × Has M j × (F ≡ joined_at m M i j)

  -- the scratch is enough for the filter of a request: against every holding, and where filters are joined the lists
  -- hold the joined filter and its pairs
  abbrev pub ListsFor : Request G T → Table G T → Type 0
  ListsFor (Filing D) F = Unit {0}
  ListsFor (Joining i j L) F = HeldBy L F

  abbrev pub ScratchFor : Scratch → Memory G T → Request G T → Table G T → Type 0
  ScratchFor S M q F = EveryHolding M (Enough m S F) × ListsFor q F

  -- a call with the sound filter F and scratch enough for it is answered rightly
  pub record Right (M : Memory G T) (F : Table G T) (r : Result ℕ Fault) (A : Memory G T) : Type 0 where
    -- it is refused as a double exactly where a holding is equivalent, and the lowest such is named
    pub refused : (i : ℕ) → i < M.head.holdings → Equivalent m F (holding M i) → (n : ℕ) × (r ≡ Err (Double n))
    pub named : (n : ℕ) → r ≡ Err (Double n) → Lowest M (Equivalent m F) n
    -- otherwise it is held under the next number, unless the shelf is full
    pub held : NoHolding M (Equivalent m F) → room_for M F ≡ true → r ≡ Ok (M.head.holdings + 1)
    pub full : NoHolding M (Equivalent m F) → room_for M F ≡ false → r ≡ Err Full
    -- and where it is held, the holding of that number is the filter
    pub stands : (n : ℕ) → r ≡ Ok n → Has A n × (numbered A n ≡ F)

  -- exactly one holding is equivalent to F
  pub record Represented (M : Memory G T) (F : Table G T) : Type 0 where
    pub place : ℕ
    pub within : place < M.head.holdings
    pub equivalent : Equivalent m F (holding M place)
    pub only : (i : ℕ) → i < M.head.holdings → Equivalent m F (holding M i) → i ≡ place

  -- where the filter of the call was sound, and the scratch enough for it, the answer is right
  abbrev pub Answered : Call G T → Type 0
  Answered c = (F : Table G T) → FilterOf c.before c.request F → Sound m F → ScratchFor c.scratch c.before c.request F → Right c.before F c.answer c.after

  -- where the filter of the call was held or refused as a double, the memory has it exactly once
  abbrev pub Kept : Memory G T → Call G T → Type 0
  Kept M c = (F : Table G T) → FilterOf c.before c.request F → (n : ℕ) → (c.answer ≡ Ok n) ⊎ (c.answer ≡ Err (Double n)) → Represented M F

  -- the law, of a history and the memory that it leaves
  pub record Law (h : List (Call G T)) (M : Memory G T) : Type 0 where
    -- the shelf can be read, and every holding is sound
    pub readable : Readable m M
    pub sound : (i : ℕ) → i < M.head.holdings → Sound m (holding M i)
    -- no two holdings are equivalent, and comparing two tells them apart
    pub no_doubles : (i j : ℕ) → i < j → j < M.head.holdings → Equivalent m (holding M i) (holding M j) → ⊥
    pub told_apart : ToldApart m M
    -- every call was answered rightly
    pub answered : AllByRecursion Answered h
    -- every filter ever held or refused as a double has exactly one equivalent holding now
    pub represented : AllByRecursion (Kept M) h

  -- what a call promises: whatever history led to the memory that it found, one more call is a history too, and has the law
  abbrev pub KeepsLaw : Call G T → Type 0
  KeepsLaw c = (h : List (Call G T)) → Reached m h c.before → Reached m (c ∷ h) c.after × Law (c ∷ h) c.after

  -- the law holds of every history
  abbrev pub CollectionLaw : Type 0
  CollectionLaw = (h : List (Call G T)) (M : Memory G T) → Reached m h M → Law h M
