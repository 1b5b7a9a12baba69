-- What steps say of a filter's outputs.
use Rattle.std.specs.Prelude.{◌≡◌, ℕ, ◌+◌, ◌-◌, ◌<◌, ◌≤◌, List, [], ◌++◌, length, take, drop, Some, None, Option}
use Rattle.std.specs.List.{AllByRecursion}
use Rattle.machine.specs.Machine.{run, and_then, prefixed}
use Rattle.machine.specs.Sides.{state_of, output_of}
use Rattle.machine.specs.Lag.{lag}
use Rattle.alphabet.specs.Model.{Model, SoundTerm}
use Rattle.table.specs.Table.{Table}
use Rattle.filter.specs.Machines.{machine_of, values_of}
use Rattle.steps.specs.declared.step.Side.{Side}
use Rattle.steps.specs.declared.step.Step.{Step}
use Rattle.steps.specs.declared.step.Hand.{Hand}
use Rattle.steps.specs.declared.step.Hand.TheVariants.{Left, Right}
use Rattle.steps.specs.Steps.{side_of, at, text, Tree}

-- the outputs of a side's last rule
abbrev pub terms_of : {T : Type 0} → List T → Side → List T
terms_of ts x = take (x.to - x.from) (drop x.from ts)

-- nothing where there is no state
abbrev pub living : Option ℕ → List ℕ → List ℕ
living None o = []
living (Some q) o = o

module _ {G T : Type 0} (m : Model G T) (F : Table G T) where
  -- what a side says the filter has written: what it had for the text u, and the values of its last rule's outputs at s
  unfoldable pub output_by : List ℕ → ℕ → Side → List ℕ
  output_by u s x = living x.state (output_of (run (machine_of m F) u 0) ++ values_of m (terms_of F.outputs x) s)

  -- the same with the final output, or none where there is no state or it rejects
  unfoldable pub whole_by : List ℕ → ℕ → Side → Option (List ℕ)
  whole_by u s x = and_then x.state (λ q. prefixed (output_by u s x) ((machine_of m F).final q))

  -- a side's outputs stand in the output list, are sound terms with a value each, and are counted
  pub record Sits (u : List ℕ) (s : ℕ) (x : Side) : Type 0 where
    pub total : x.total ≡ length (output_by u s x)
    pub ordered : x.from ≤ x.to
    pub within : x.to ≤ length F.outputs
    pub sound : AllByRecursion (SoundTerm m) (terms_of F.outputs x)
    pub full : length (values_of m (terms_of F.outputs x) s) ≡ x.to - x.from

  -- the side is where the filter stands after the text t, which is u and s
  pub record Stands (u t : List ℕ) (s : ℕ) (x : Side) : Type 0 where
    pub sits : Sits u s x
    pub state : state_of (run (machine_of m F) t 0) ≡ x.state
    pub output : output_of (run (machine_of m F) t 0) ≡ output_by u s x

  -- each step says where the filter stands after its text
  pub record Traced (h : Hand) (L : List Step) : Type 0 where
    pub stands : (i : ℕ) → i < length L → Stands (text L (at L i).parent) (text L i) (at L i).symbol (side_of h (at L i))

  -- n symbols have room for what the side has written, and for any final output behind it
  pub record RoomFor (x : Side) (n : ℕ) : Type 0 where
    pub on_the_way : x.total ≤ n
    pub at_the_end : (q : ℕ) (y : List ℕ) → (machine_of m F).final q ≡ Some y → x.total + length y ≤ n

module _ {G T : Type 0} (m : Model G T) (F H : Table G T) (L : List Step) where
  -- the steps hold texts, and say where both filters stand after them
  pub record Tracks : Type 0 where
    pub tree : Tree L
    pub left : Traced m F Left L
    pub right : Traced m H Right L

  -- a step, in the list or not, that goes on from one in the list
  pub record Attached (x : Step) : Type 0 where
    pub above : x.parent < length L
    pub left : Sits m F (text L x.parent) x.symbol x.left
    pub right : Sits m H (text L x.parent) x.symbol x.right

  -- the lag of what a step says the two filters have written
  unfoldable pub lag_by : Step → List ℕ × List ℕ
  lag_by x = lag (output_by m F (text L x.parent) x.symbol x.left) (output_by m H (text L x.parent) x.symbol x.right)

  -- the two filters write the same, by what a step says, or reject alike
  abbrev pub Agrees : Step → Type 0
  Agrees x = whole_by m F (text L x.parent) x.symbol x.left ≡ whole_by m H (text L x.parent) x.symbol x.right

-- the first n symbols, or none
abbrev pub wrote : Option ℕ → List ℕ → Option (List ℕ)
wrote None o = None
wrote (Some n) o = Some (take n o)

-- no more than n, if there is a number
abbrev pub Within : Option ℕ → ℕ → Type 0
Within None n = Unit {0}
Within (Some k) n = k ≤ n
