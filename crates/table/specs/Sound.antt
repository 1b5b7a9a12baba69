-- What it is for a table to be sound, fault by fault left out: a law above the order of the checks.
use Rattle.std.specs.Prelude.{◌≡◌, ℕ, ◌+◌, ◌<◌, ◌≤◌, true, false, ◌&&◌, length, Some}
use Rattle.std.specs.List.{slice_get, AllByRecursion}
use Rattle.alphabet.specs.Model.{Model, SoundGuard, SoundTerm}
use Rattle.table.specs.declared.entries.State.{State}
use Rattle.table.specs.declared.entries.Rule.{Rule}
use Rattle.table.specs.Table.{Table, final_total_of, rule_total_of, final_outputs, rule_outputs}

module _ {G T : Type 0} (m : Model G T) where
  -- a sound term that gives one symbol at all symbols
  abbrev pub Constant : T → Type 0
  Constant t = SoundTerm m t × ((c : ℕ) × ((s : ℕ) → s < m.size → m.value t s ≡ Some c))

  -- a sound term with a value at every symbol of the guard
  abbrev pub Suits : G → T → Type 0
  Suits g t = SoundTerm m t × ((s : ℕ) → m.holds g s ≡ true → (x : ℕ) × (m.value t s ≡ Some x))

  pub record Sound (F : Table G T) : Type 0 where
    -- 1 to 64 states, at most 1,024 rules and 4,096 outputs
    pub some_state : 1 ≤ length F.states
    pub few_states : length F.states ≤ 64
    pub few_rules : length F.rules ≤ 1024
    pub few_outputs : length F.outputs ≤ 4096
    -- a state accepts (mark 1) or rejects (mark 0); it has at most 32 final outputs, and none where it rejects
    pub mark : (q : ℕ) (s : State) → slice_get F.states q ≡ Some s → s.mark ≤ 1
    pub short_final : (q : ℕ) (s : State) → slice_get F.states q ≡ Some s → s.finals ≤ 32
    pub no_final : (q : ℕ) (s : State) → slice_get F.states q ≡ Some s → s.mark ≡ 0 → s.finals ≡ 0
    -- a rule leads from a state to a state, has a sound guard and at most 32 outputs
    pub from : (i : ℕ) (r : Rule G) → slice_get F.rules i ≡ Some r → r.state < length F.states
    pub to : (i : ℕ) (r : Rule G) → slice_get F.rules i ≡ Some r → r.next < length F.states
    pub guard : (i : ℕ) (r : Rule G) → slice_get F.rules i ≡ Some r → SoundGuard m r.guard
    pub short_output : (i : ℕ) (r : Rule G) → slice_get F.rules i ≡ Some r → r.outputs ≤ 32
    -- the outputs are those that the counts ask for
    pub counts : length F.outputs ≡ final_total_of F.states + rule_total_of F.rules
    pub final : (q : ℕ) → AllByRecursion Constant (final_outputs F q)
    pub output : (i : ℕ) (r : Rule G) → slice_get F.rules i ≡ Some r → AllByRecursion (Suits r.guard) (rule_outputs F i)
    -- no symbol is held by two rules of one state
    pub apart : (i j : ℕ) (r e : Rule G) → i < j → slice_get F.rules i ≡ Some e → slice_get F.rules j ≡ Some r → e.state ≡ r.state → (s : ℕ) → (m.holds e.guard s && m.holds r.guard s) ≡ false
