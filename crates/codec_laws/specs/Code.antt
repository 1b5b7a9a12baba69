-- Records as bytes: what a record of fixed width is written as, and what its bytes mean.
use Rattle.std.specs.Prelude.{◌≡◌, ℕ, ◌<◌, Bool, true, List, length, Some, None, Option}
use Rattle.std.specs.List.{AllByRecursion}

pub record Code (X : Type 0) : Type 0 where
  -- how many bytes a record has
  pub width : ℕ
  -- its bytes; of a number that does not fit, the lowest
  pub image : X → List ℕ
  -- the record that bytes mean
  pub meaning : List ℕ → X
  -- the place of the first byte that stands in no record, or none
  pub wrong : List ℕ → Option ℕ
  -- every number of the record fits its bytes
  pub fits : X → Bool

abbrev pub Bytes : List ℕ → Type 0
Bytes bs = AllByRecursion (λ b. b < 256) bs

-- reading undoes writing, and writing reading
pub record Exact {X : Type 0} (c : Code X) : Type 0 where
  pub size : (x : X) → length (c.image x) ≡ c.width
  pub back : (x : X) → c.fits x ≡ true → c.meaning (c.image x) ≡ x
  pub clean : (x : X) → c.fits x ≡ true → c.wrong (c.image x) ≡ None
  -- a wrong byte is one of the record's
  pub inside : (bs : List ℕ) (k : ℕ) → c.wrong bs ≡ Some k → k < c.width
  pub again : (bs : List ℕ) → length bs ≡ c.width → Bytes bs → c.wrong bs ≡ None → c.image (c.meaning bs) ≡ bs

-- no byte of such a record is wrong
abbrev pub Free : {X : Type 0} → Code X → Type 0
Free c = (bs : List ℕ) → c.wrong bs ≡ None
