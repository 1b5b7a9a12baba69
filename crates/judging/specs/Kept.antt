-- What a comparison keeps true of its steps and cells.
use Rattle.std.specs.Prelude.{◌≡◌, ℕ, ◌+◌, ◌*◌, ◌<◌, ◌≤◌, List, [], ◌∷◌, ◌++◌, length, Some, None, Option, ◌≢◌}
use Rattle.machine.specs.Covered.{Covered}
use Rattle.machine.specs.Explored.{Ready, Partway}
use Rattle.machine.specs.Lag.{lag_of}
use Rattle.machine.specs.Texts.{texts}
use Rattle.alphabet.specs.Model.{Model}
use Rattle.table.specs.Table.{Table}
use Rattle.filter.specs.Machines.{machine_of}
use Rattle.steps.specs.declared.step.Visit.{Visit}
use Rattle.steps.specs.declared.step.Visit.TheVariants.{First, Second}
use Rattle.steps.specs.declared.step.Step.{Step}
use Rattle.steps.specs.Steps.{at, nodes_of, text}
use Rattle.steps.specs.Places.{place_of, place_at, Proper, Placed}
use Rattle.replay.specs.Replays.{Stands, Tracks}
use Rattle.moves.specs.Moves.{Known}

module _ {G T : Type 0} (m : Model G T) (F H : Table G T) (p q w : ℕ) where
  -- some step is the first visit to the pair, and its lag is another than that of t
  abbrev pub Mate : List Step → List ℕ → Option ℕ → Option ℕ → Type 0
  Mate L t l r = (i : ℕ) × (i < length L) × (place_at p q (at L i) ≡ place_of p q l r First)
      × (lag_of (machine_of m F) (machine_of m H) (text L i) ≢ lag_of (machine_of m F) (machine_of m H) t)

  -- the steps say where the filters stand, have written w symbols for each step at most, are found by their places, and
  -- a second visit has another lag than the first
  pub record Kept (L : List Step) (C : List ℕ) : Type 0 where
    pub tracks : Tracks m F H L
    pub lefts : (i : ℕ) → i < length L → (at L i).left.total ≤ i * w
    pub rights : (i : ℕ) → i < length L → (at L i).right.total ≤ i * w
    pub placed : Placed p q L C
    pub mates : (i : ℕ) → i < length L → (at L i).visit ≡ Second → Mate L (text L i) (at L i).left.state (at L i).right.state

  -- at step k, whose text does not distinguish; the symbols below s are done
  pub record Going (L : List Step) (C : List ℕ) (k s : ℕ) : Type 0 where
    pub kept : Kept L C
    pub way : Partway (machine_of m F) (machine_of m H) (texts (nodes_of L)) k s

  -- before step k
  pub record Turned (L : List Step) (C : List ℕ) (k : ℕ) : Type 0 where
    pub kept : Kept L C
    pub ready : Ready (machine_of m F) (machine_of m H) (texts (nodes_of L)) k

  -- the text of a step that may be put behind the others
  abbrev pub text_by : List Step → Step → List ℕ
  text_by L x = text L x.parent ++ (x.symbol ∷ [])

  -- where the filters stand after it
  pub record Extends (L : List Step) (x : Step) : Type 0 where
    pub above : x.parent < length L
    pub left : Stands m F (text L x.parent) (text_by L x) x.symbol x.left
    pub right : Stands m H (text L x.parent) (text_by L x) x.symbol x.right
    pub short_left : x.left.total ≤ (x.parent + 1) * w
    pub short_right : x.right.total ≤ (x.parent + 1) * w
    pub known_left : Known p x.left.state
    pub known_right : Known q x.right.state

  -- none where the text is covered, else which visit it is; no step has its place yet
  abbrev pub Judged : List Step → Step → Option Visit → Type 0
  Judged L x None = Covered (machine_of m F) (machine_of m H) (text_by L x)
  Judged L x (Some visit) = Proper p q x.left.state x.right.state visit
      × ((i : ℕ) → i < length L → place_at p q (at L i) ≢ place_of p q x.left.state x.right.state visit)
      × (visit ≡ Second → Mate L (text_by L x) x.left.state x.right.state)
