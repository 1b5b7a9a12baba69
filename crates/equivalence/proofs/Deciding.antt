-- What the machines of two filters tell, as what the filters write.
use Rattle.std.proofs.Common.{ℕ, List, Some, None, Option}
use Rattle.machine.specs.Compared.{Told}
use Rattle.alphabet.specs.Model.{Model}
use Rattle.alphabet.specs.Laws.{Lawful}
use Rattle.table.specs.Table.{Table}
use Rattle.table.specs.Sound.{Sound}
use Rattle.filter.specs.Machines.{machine_of}
use Rattle.filter.proofs.Meanings.{same_transduced, transduced_same}
use Rattle.equivalence.specs.Decided.{Decided}

pub decided : {G T : Type 0} (m : Model G T) (F H : Table G T) → Lawful m → Sound m F → Sound m H → (r : Option (List ℕ)) → Told (machine_of m F) (machine_of m H) r → Decided m F H r
decided m F H L R S None told = λ u. transduced_same m F H L R S u (told u)
decided m F H L R S (Some u) told =
    (λ same. told.0 (same_transduced m F H L R S u same), λ y earlier. transduced_same m F H L R S y (told.1 y earlier))
