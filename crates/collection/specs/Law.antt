-- The law of the collection: whatever calls are made, a shelf keeps each filter once.
use Rattle.std.specs.Prelude.{◌≡◌, ℕ, ◌+◌, ◌<◌, true, false, ◌⊎◌, List, ◌∷◌, Some, Ok}
use Rattle.std.specs.List.{AllByRecursion}
use Rattle.alphabet.specs.Model.{Model}
use Rattle.table.specs.Table.{Table}
use Rattle.table.specs.Sound.{Sound}
use Rattle.filter.specs.Meaning.{Equivalent}
use Rattle.holdings.specs.Memory.{Memory, holding}
use Rattle.holdings.specs.Check.{checked_shelf}
use Rattle.holdings.specs.Append.{room_for}
use Rattle.collection.specs.Filing.{Held, Double, Full, Lowest, NoHolding, Short}
use Rattle.collection.specs.History.{Call, Reached}

module _ {G T : Type 0} (m : Model G T) where
  -- a call with the filter F, and with scratch enough against every holding, has the right answer
  pub record Right (c : Call G T) (F : Table G T) : Type 0 where
    -- it is refused as a double exactly where a holding is equivalent, and the lowest such is named
    pub refused : (i : ℕ) → i < c.before.head.holdings → Equivalent m F (holding c.before i) → (n : ℕ) × (c.answer ≡ Double n)
    pub named : (n : ℕ) → c.answer ≡ Double n → Lowest c.before (Equivalent m F) n
    -- otherwise it is held under the next number, unless the shelf is full
    pub held : NoHolding c.before (Equivalent m F) → room_for c.before F ≡ true → c.answer ≡ Held (c.before.head.holdings + 1)
    pub full : NoHolding c.before (Equivalent m F) → room_for c.before F ≡ false → c.answer ≡ Full

  -- exactly one holding is equivalent to F
  pub record Represented (M : Memory G T) (F : Table G T) : Type 0 where
    pub place : ℕ
    pub within : place < M.head.holdings
    pub equivalent : Equivalent m F (holding M place)
    pub only : (i : ℕ) → i < M.head.holdings → Equivalent m F (holding M i) → i ≡ place

  -- where the call had scratch enough for its filter, its answer is right
  abbrev pub Answered : Call G T → Type 0
  Answered c = (F : Table G T) → c.filter ≡ Some F → NoHolding c.before (Short c.enough F) → Right c F

  -- where the filter of the call was held or refused as a double, the memory has it exactly once
  abbrev pub Kept : Memory G T → Call G T → Type 0
  Kept M c = (F : Table G T) → c.filter ≡ Some F → (n : ℕ) → (c.answer ≡ Held n) ⊎ (c.answer ≡ Double n) → Represented M F

  -- the law, of a history and the memory that it leaves
  pub record Law (h : List (Call G T)) (M : Memory G T) : Type 0 where
    -- the shelf can be read, and every holding is sound
    pub readable : checked_shelf m M ≡ Ok tt
    pub sound : (i : ℕ) → i < M.head.holdings → Sound m (holding M i)
    -- no two holdings are equivalent
    pub no_doubles : (i j : ℕ) → i < j → j < M.head.holdings → Equivalent m (holding M i) (holding M j) → ⊥
    -- every call was answered rightly
    pub answered : AllByRecursion Answered h
    -- every filter ever held or refused as a double has exactly one equivalent holding now
    pub represented : AllByRecursion (Kept M) h

  -- what a call promises: whatever history led to the memory that it found, one more call is a history too, and has the law
  abbrev pub KeepsLaw : Call G T → Type 0
  KeepsLaw c = (h : List (Call G T)) → Reached m h c.before → Reached m (c ∷ h) c.after × Law (c ∷ h) c.after

  -- the law holds of every history
  abbrev pub CollectionLaw : Type 0
  CollectionLaw = (h : List (Call G T)) (M : Memory G T) → Reached m h M → Law h M
