-- What a filter means, as a relation: the moves and paths of a finite transducer, and what it writes for a text.
use Rattle.std.specs.Prelude.{◌≡◌, ℕ, ◌<◌, true, List, [], ◌∷◌, ◌++◌, Some}
use Rattle.std.specs.List.{slice_get}
use Rattle.alphabet.specs.Model.{Model}
use Rattle.table.specs.declared.entries.State.{State}
use Rattle.table.specs.declared.entries.Rule.{Rule}
use Rattle.table.specs.Table.{Table, final_outputs, rule_outputs}

-- v has the values of the terms at the symbol s, one for one
abbrev pub Values : {G T : Type 0} → Model G T → List T → ℕ → List ℕ → Type 0
Values m [] s [] = Unit {0}
Values m [] s (x ∷ v) = ⊥
Values m (t ∷ ts) s [] = ⊥
Values m (t ∷ ts) s (x ∷ v) = (m.value t s ≡ Some x) × Values m ts s v

module _ {G T : Type 0} (m : Model G T) (F : Table G T) where
  -- in state p, some rule holds s, writes v there and goes to q
  pub record Move (p s : ℕ) (v : List ℕ) (q : ℕ) : Type 0 where
    pub number : ℕ
    pub rule : Rule G
    pub is : slice_get F.rules number ≡ Some rule
    pub from : rule.state ≡ p
    pub holds : m.holds rule.guard s ≡ true
    pub writes : Values m (rule_outputs F number) s v
    pub to : rule.next ≡ q

  -- moves one after another lead from p to q, read the text and write v
  abbrev pub Path : ℕ → List ℕ → List ℕ → ℕ → Type 0
  Path p [] v q = (p ≡ q) × (v ≡ [])
  Path p (s ∷ u) v q = (x : List ℕ) × (r : ℕ) × (y : List ℕ) × Move p s x r × Path r u y q × (v ≡ x ++ y)

  -- the state q accepts, and its final outputs, which are constants, are v
  pub record Final (q : ℕ) (v : List ℕ) : Type 0 where
    pub state : State
    pub is : slice_get F.states q ≡ Some state
    pub accepts : state.mark ≡ 1
    pub writes : (s : ℕ) → s < m.size → Values m (final_outputs F q) s v

  -- the filter writes v for the text: on a path from state 0, and at its end
  pub record Writes (text v : List ℕ) : Type 0 where
    pub end : ℕ
    pub on_the_way : List ℕ
    pub at_the_end : List ℕ
    pub path : Path 0 text on_the_way end
    pub final : Final end at_the_end
    pub is : v ≡ on_the_way ++ at_the_end

-- two filters do the same to a text: what one writes for it the other writes, and so they reject it together
abbrev pub SameOn : {G T : Type 0} → Model G T → Table G T → Table G T → List ℕ → Type 0
SameOn m F H text = (v : List ℕ) → (Writes m F text v → Writes m H text v) × (Writes m H text v → Writes m F text v)

-- two filters are equivalent: they do the same to every text
abbrev pub Equivalent : {G T : Type 0} → Model G T → Table G T → Table G T → Type 0
Equivalent m F H = (text : List ℕ) → SameOn m F H text
