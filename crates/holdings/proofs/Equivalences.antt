-- Equivalence of filters is an equivalence relation.
use Rattle.alphabet.specs.Model.{Model}
use Rattle.table.specs.Table.{Table}
use Rattle.filter.specs.Meaning.{Equivalent}

module _ {G T : Type 0} (m : Model G T) where
  pub equivalent_refl : (F : Table G T) → Equivalent m F F
  equivalent_refl F text v = (λ w. w, λ w. w)

  pub equivalent_sym : (F H : Table G T) → Equivalent m F H → Equivalent m H F
  equivalent_sym F H e text v = ((e text v).1, (e text v).0)

  pub equivalent_trans : (F H K : Table G T) → Equivalent m F H → Equivalent m H K → Equivalent m F K
  equivalent_trans F H K e f text v = (λ w. (f text v).0 ((e text v).0 w), λ w. (e text v).1 ((f text v).1 w))
