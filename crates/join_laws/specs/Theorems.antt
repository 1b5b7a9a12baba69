-- What is proved of the joined filter, as statements that contracts name.
use Rattle.std.specs.Prelude.{◌≡◌, ℕ, ◌*◌, ◌≤◌, true, List, length}
use Rattle.std.specs.List.{AllByRecursion}
use Rattle.machine.specs.Machine.{and_then, run, transduced}
use Rattle.machine.specs.Composed.{Composes}
use Rattle.alphabet.specs.Model.{Model, SoundGuard}
use Rattle.table.specs.declared.entries.State.{State}
use Rattle.table.specs.declared.entries.Rule.{Rule}
use Rattle.table.specs.Table.{Table}
use Rattle.table.specs.Sound.{Sound, Suits}
use Rattle.filter.specs.Meaning.{Writes}
use Rattle.filter.specs.Machines.{machine_of, values_of}
use Rattle.join_laws.specs.Lines.{lines_of}
use Rattle.join_laws.specs.Ways.{ways, taken}
use Rattle.join_laws.specs.Joined.{joined, pairs}

-- the sizes of a table are within the limits: 64 states, 1,024 rules, 4,096 outputs, 32 of them in one piece
pub record Limited {G T : Type 0} (F : Table G T) : Type 0 where
  pub states : length F.states ≤ 64
  pub rules : length F.rules ≤ 1024
  pub outputs : length F.outputs ≤ 4096
  pub finals : AllByRecursion (λ (s : State). s.finals ≤ 32) F.states
  pub pieces : AllByRecursion (λ (r : Rule G). r.outputs ≤ 32) F.rules

module _ {G T : Type 0} (m : Model G T) where
  -- the first way that holds a symbol leads where the second filter runs on the values of the terms there, and writes
  -- what it writes
  abbrev pub WaysRun : Table G T → Type 0
  WaysRun H = (ts : List T) (q : ℕ) (g : G) (s : ℕ) → SoundGuard m g → AllByRecursion (Suits m g) ts → m.holds g s ≡ true
      → taken m (ways m (lines_of H) ts q g) s ≡ run (machine_of m H) (values_of m ts s) q

  -- the joined filter does what the two do one after the other: pair by pair, and on whole texts
  pub record Joins (F H : Table G T) : Type 0 where
    pub pairwise : Composes (machine_of m F) (machine_of m H) (machine_of m (joined m F H)) (pairs m F H)
    pub composed : (u : List ℕ) → transduced (machine_of m (joined m F H)) u ≡ and_then (transduced (machine_of m F) u) (λ w. transduced (machine_of m H) w)
    -- no more states than pairs, and sound wherever it is within the limits
    pub few : length (joined m F H).states ≤ length F.states * length H.states
    pub sound : Limited (joined m F H) → Sound m (joined m F H)
    -- in the words of what filters write: within the limits it writes v for u exactly where the first writes some t for u
    -- and the second writes v for t
    pub writes : Limited (joined m F H) → (u v : List ℕ)
        → (Writes m (joined m F H) u v → (t : List ℕ) × Writes m F u t × Writes m H t v)
        × ((t : List ℕ) → Writes m F u t → Writes m H t v → Writes m (joined m F H) u v)
