-- The joined filter does what the two do one after the other: all of it in one place.
use Rattle.std.proofs.Common.{◌≡◌, ℕ, List, Some, sym, ap, ◌∙◌}
use Rattle.machine.specs.Machine.{and_then, transduced}
use Rattle.alphabet.specs.Model.{Model}
use Rattle.alphabet.specs.Laws.{Lawful}
use Rattle.table.specs.Table.{Table}
use Rattle.table.specs.Sound.{Sound}
use Rattle.filter.specs.Machines.{machine_of}
use Rattle.filter.specs.Meaning.{Writes}
use Rattle.filter.proofs.Moves.{some_before}
use Rattle.filter.proofs.Meanings.{writes_transduced, transduced_writes}
use Rattle.join_laws.specs.Joined.{joined}
use Rattle.join_laws.specs.Theorems.{Limited, Joins}
use Rattle.join_laws.proofs.Composed.{joined_composes_lem, joined_transduced, joined_few}
use Rattle.join_laws.proofs.Sounds.{joined_sound}

module _ {G T : Type 0} (m : Model G T) (L : Lawful m) (F H : Table G T) (A : Sound m F) (B : Sound m H) where
  joined_writes : Limited (joined m F H) → (u v : List ℕ)
      → (Writes m (joined m F H) u v → (t : List ℕ) × Writes m F u t × Writes m H t v)
      × ((t : List ℕ) → Writes m F u t → Writes m H t v → Writes m (joined m F H) u v)
  joined_writes limited u v = (there, back)
    where
      S : Sound m (joined m F H)
      S = joined_sound m L F H A B limited

      split : and_then (transduced (machine_of m F) u) (λ w. transduced (machine_of m H) w) ≡ Some v → (t : List ℕ) × Writes m F u t × Writes m H t v
      split e =
          let d = some_before (transduced (machine_of m F) u) (λ w. transduced (machine_of m H) w) v e in
          (d.0, transduced_writes m F L A u d.0 d.1, transduced_writes m H L B d.0 v d.2)

      there : Writes m (joined m F H) u v → (t : List ℕ) × Writes m F u t × Writes m H t v
      there W = split (sym (joined_transduced m L F H A B u) ∙ writes_transduced m (joined m F H) L S u v W)

      back : (t : List ℕ) → Writes m F u t → Writes m H t v → Writes m (joined m F H) u v
      back t W V =
          transduced_writes m (joined m F H) L S u v
          (joined_transduced m L F H A B u ∙ ap (λ o. and_then o (λ w. transduced (machine_of m H) w)) (writes_transduced m F L A u t W) ∙ writes_transduced m H L B t v V)

  pub joins : Joins m F H
  joins = record {
    pairwise = joined_composes_lem m L F H A B;
    composed = joined_transduced m L F H A B;
    few = joined_few m L F H A B;
    sound = joined_sound m L F H A B;
    writes = joined_writes;
  }
