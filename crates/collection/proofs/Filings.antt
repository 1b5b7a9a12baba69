-- A filing has one answer, and leaves one memory.
use Rattle.std.proofs.Common.{◌≡◌, ℕ, ◌+◌, ◌<◌, Bool, ◌⊎◌, sym, refl, ap, ◌∙◌, inl, inr, arith}
use Rattle.alphabet.specs.Model.{Model}
use Rattle.table.specs.Table.{Table}
use Rattle.filter.specs.Meaning.{Equivalent}
use Rattle.holdings.specs.Memory.{Memory}
use Rattle.collection.specs.Filing.{Answer, Held, Unreadable, NoFilter, ShortScratch, Double, Full, Lowest, NoHolding, Short, Filing}

module _ {G T : Type 0} (M : Memory G T) (P : Table G T → Type 0) where
  -- the lowest holding of a kind is one
  lowest_one : (n k : ℕ) → Lowest M P n → Lowest M P k → n ≡ k
  lowest_one n k x y = go (grind arith)
    where
      go : (x.place < y.place) ⊎ ((y.place < x.place) ⊎ (x.place ≡ y.place)) → n ≡ k
      go (inl l) = absurd (y.none_below x.place l x.here)
      go (inr (inl l)) = absurd (x.none_below y.place l y.here)
      go (inr (inr same)) = x.number ∙ ap (λ i. i + 1) same ∙ sym y.number

  -- and where no holding is of the kind, there is no lowest
  none_lowest : NoHolding M P → (n : ℕ) → Lowest M P n → ⊥
  none_lowest none n x = none x.place x.within x.here

module _ {G T : Type 0} (m : Model G T) (enough : Table G T → Table G T → Bool) (M : Memory G T) (F : Table G T) where
  -- the answer of a filing and the memory that it leaves are determined
  pub filing_one : (r s : Answer) (A B : Memory G T) → Filing m enough M F r A → Filing m enough M F s B → (r ≡ s) × (A ≡ B)
  filing_one Unreadable s A B f g = absurd f
  filing_one NoFilter s A B f g = absurd f
  filing_one (ShortScratch n) Unreadable A B f g = absurd g
  filing_one (ShortScratch n) NoFilter A B f g = absurd g
  filing_one (ShortScratch n) (ShortScratch k) A B f g = (ap ShortScratch (lowest_one M (Short enough F) n k f.0 g.0), f.1 ∙ sym g.1)
  filing_one (ShortScratch n) (Double k) A B f g = absurd (none_lowest M (Short enough F) g.0 n f.0)
  filing_one (ShortScratch n) Full A B f g = absurd (none_lowest M (Short enough F) g.0 n f.0)
  filing_one (ShortScratch n) (Held k) A B f g = absurd (none_lowest M (Short enough F) g.0 n f.0)
  filing_one (Double n) Unreadable A B f g = absurd g
  filing_one (Double n) NoFilter A B f g = absurd g
  filing_one (Double n) (ShortScratch k) A B f g = absurd (none_lowest M (Short enough F) f.0 k g.0)
  filing_one (Double n) (Double k) A B f g = (ap Double (lowest_one M (Equivalent m F) n k f.1 g.1), f.2 ∙ sym g.2)
  filing_one (Double n) Full A B f g = absurd (none_lowest M (Equivalent m F) g.1 n f.1)
  filing_one (Double n) (Held k) A B f g = absurd (none_lowest M (Equivalent m F) g.1 n f.1)
  filing_one Full Unreadable A B f g = absurd g
  filing_one Full NoFilter A B f g = absurd g
  filing_one Full (ShortScratch k) A B f g = absurd (none_lowest M (Short enough F) f.0 k g.0)
  filing_one Full (Double k) A B f g = absurd (none_lowest M (Equivalent m F) f.1 k g.1)
  filing_one Full Full A B f g = (refl, f.3 ∙ sym g.3)
  filing_one Full (Held k) A B f g = absurd (grind arith)
  filing_one (Held n) Unreadable A B f g = absurd g
  filing_one (Held n) NoFilter A B f g = absurd g
  filing_one (Held n) (ShortScratch k) A B f g = absurd (none_lowest M (Short enough F) f.0 k g.0)
  filing_one (Held n) (Double k) A B f g = absurd (none_lowest M (Equivalent m F) f.1 k g.1)
  filing_one (Held n) Full A B f g = absurd (grind arith)
  filing_one (Held n) (Held k) A B f g = (ap Held (f.3 ∙ sym g.3), f.4 ∙ sym g.4)
