-- The steps of a comparison as lists: where a filter stands after a step, and the text of a step.
use Rattle.std.specs.Prelude.{◌≡◌, ℕ, ◌<◌, cond, List, ◌++◌, map, length, drop, Some, None, Option, nat_le, nat_lt, slice_index_or}
use Rattle.machine.specs.Texts.{text_at}
use Rattle.steps.specs.declared.step.Side.{Side}
use Rattle.steps.specs.declared.step.Step.{Step}
use Rattle.steps.specs.declared.step.Visit.TheVariants.{First}
use Rattle.steps.specs.declared.step.Hand.{Hand}
use Rattle.steps.specs.declared.step.Hand.TheVariants.{Left, Right}

-- where one of the two filters stands
abbrev pub side_of : Hand → Step → Side
side_of Left x = x.left
side_of Right x = x.right

-- a step of zeros, which stands for a step that is not there
abbrev pub blank : Step
blank = record {
  parent = 0;
  symbol = 0;
  left = record { state = None; from = 0; to = 0; total = 0 };
  right = record { state = None; from = 0; to = 0; total = 0 };
  visit = First;
}

-- the step of a number
abbrev pub at : List Step → ℕ → Step
at L i = slice_index_or L i blank

-- the steps as nodes: a parent and a symbol each
abbrev pub nodes_of : List Step → List (ℕ × ℕ)
nodes_of L = map (λ (x : Step). (x.parent, x.symbol)) L

-- the text of step i
unfoldable pub text : List Step → ℕ → List ℕ
text L i = text_at (nodes_of L) i

-- the step whose text the text of step i goes on from
abbrev pub above_of : List Step → ℕ → ℕ
above_of L i = cond (nat_lt (at L i).parent i) (at L i).parent 0

-- the length of a text that fits, and the list that it is written to
abbrev pub length_in : List ℕ → ℕ → Option ℕ
length_in t n = cond (nat_le (length t) n) (Some (length t)) None

abbrev pub written_to : List ℕ → List ℕ → List ℕ
written_to t w = cond (nat_le (length t) (length w)) (t ++ drop (length t) w) w

-- steps that hold texts: a first one, which stands for the empty text, and others that go on from earlier ones
pub record Tree (L : List Step) : Type 0 where
  pub some : 0 < length L
  pub root : (at L 0).parent ≡ 0
  pub rooted : (i : ℕ) → 0 < i → i < length L → (at L i).parent < i
