-- Lists of records as bytes, one record after another.
use Rattle.std.specs.Prelude.{◌≡◌, ℕ, zero, suc, ◌+◌, true, List, [], ◌∷◌, take, drop, Some, None, Option}
use Rattle.std.specs.List.{AllByRecursion, flat_map}
use Rattle.codec_laws.specs.Code.{Code}

-- a place, counted from k places further in front
abbrev pub later : ℕ → Option ℕ → Option ℕ
later k None = None
later k (Some n) = Some (k + n)

-- the first of two places
abbrev pub or_else : Option ℕ → Option ℕ → Option ℕ
or_else None o = o
or_else (Some n) o = Some n

module _ {X : Type 0} (c : Code X) where
  -- the bytes of the records
  abbrev pub image_all : List X → List ℕ
  image_all xs = flat_map c.image xs

  -- the first n records that the bytes mean
  abbrev pub records : ℕ → List ℕ → List X
  records zero bs = []
  records (suc n) bs = c.meaning (take c.width bs) ∷ records n (drop c.width bs)

  -- the place of the first wrong byte among n records, of which the first stands at the place k
  abbrev pub wrong_from : ℕ → ℕ → List ℕ → Option ℕ
  wrong_from k zero bs = None
  wrong_from k (suc n) bs = or_else (later k (c.wrong (take c.width bs))) (wrong_from (k + c.width) n (drop c.width bs))

  -- every record fits its bytes
  abbrev pub FitAll : List X → Type 0
  FitAll xs = AllByRecursion (λ (x : X). c.fits x ≡ true) xs
