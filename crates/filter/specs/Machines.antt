-- What a filter means, as a function: the abstract machine that it is.
use Rattle.std.specs.Prelude.{◌≡◌, ℕ, ◌+◌, ◌-◌, ◌≤◌, Bool, cond, ◌&&◌, List, [], ◌∷◌, ◌++◌, length, take, drop, Some, None, Option, ◌==◌}
use Rattle.std.specs.List.{slice_get, AllByRecursion}
use Rattle.std.specs.Option.{option_to_list}
use Rattle.machine.specs.Machine.{Machine, and_then}
use Rattle.alphabet.specs.Model.{Model, SoundTerm}
use Rattle.table.specs.declared.entries.State.{State}
use Rattle.table.specs.declared.entries.Rule.{Rule}
use Rattle.filter.specs.declared.walk.Found.{Found}
use Rattle.table.specs.Table.{Table, final_outputs, rule_outputs}

module _ {G T : Type 0} (m : Model G T) where
  -- the values that the terms have at a symbol, one after another
  abbrev pub values_of : List T → ℕ → List ℕ
  values_of [] s = []
  values_of (t ∷ ts) s = option_to_list (m.value t s) ++ values_of ts s

  -- the rule is one of state p and holds s
  abbrev pub applies : ℕ → ℕ → Rule G → Bool
  applies p s r = r.state == p && m.holds r.guard s

  -- the first rule that applies, with its number; the first of the list has the number i
  abbrev pub pick : ℕ → ℕ → ℕ → List (Rule G) → Option (ℕ × Rule G)
  pick p s i [] = None
  pick p s i (r ∷ rs) = cond (applies p s r) (Some (i, r)) (pick p s (i + 1) rs)

  -- the machine of a filter; final outputs are constants, so that their values at 0 are their values
  unfoldable pub machine_of : Table G T → Machine
  machine_of F = record {
    step = λ p s. and_then (pick p s 0 F.rules) (λ x. Some (x.1.next, values_of (rule_outputs F x.0) s));
    final = λ q. and_then (slice_get F.states q) (λ (e : State). cond (e.mark == 1) (Some (values_of (final_outputs F q) 0)) None);
  }

  -- the same with where its outputs stand: the outputs of the list's first rule begin at k
  abbrev pub found : ℕ → ℕ → ℕ → ℕ → List (Rule G) → Option Found
  found p s i k [] = None
  found p s i k (r ∷ rs) = cond (applies p s r) (Some (record { rule = i; next = r.next; from = k; to = k + r.outputs })) (found p s (i + 1) (k + r.outputs) rs)

-- where a found rule leads, what it writes, and that the terms it writes are sound and stand in the list
pub record Leads {G T : Type 0} (m : Model G T) (F : Table G T) (p s : ℕ) (f : Found) : Type 0 where
  pub steps : (machine_of m F).step p s ≡ Some (f.next, values_of m (take (f.to - f.from) (drop f.from F.outputs)) s)
  pub ordered : f.from ≤ f.to
  pub within : f.to ≤ length F.outputs
  pub few : f.to ≤ f.from + 32
  pub sound : AllByRecursion (SoundTerm m) (take (f.to - f.from) (drop f.from F.outputs))

-- a found rule leads on, and where none is found the machine has no move
abbrev pub Finds : {G T : Type 0} → Model G T → Table G T → ℕ → ℕ → Option Found → Type 0
Finds m F p s None = (machine_of m F).step p s ≡ None
Finds m F p s (Some f) = Leads m F p s f
