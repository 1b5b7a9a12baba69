-- A sound table is within the limits.
use Rattle.std.proofs.Common.{◌≡◌, ℕ, suc, ◌≤◌, List, [], ◌∷◌, Some, refl}
use Rattle.std.specs.List.{slice_get, AllByRecursion}
use Rattle.alphabet.specs.Model.{Model}
use Rattle.table.specs.declared.entries.State.{State}
use Rattle.table.specs.declared.entries.Rule.{Rule}
use Rattle.table.specs.Table.{Table}
use Rattle.table.specs.Sound.{Sound}
use Rattle.join_laws.specs.Theorems.{Limited}

-- what holds at every place holds of all
all_nth : {X : Type 0} (P : X → Type 0) (xs : List X) → ((i : ℕ) (x : X) → slice_get xs i ≡ Some x → P x) → AllByRecursion P xs
all_nth P [] h = tt
all_nth P (x ∷ xs) h = (h 0 x refl, all_nth P xs (λ i y e. h (suc i) y e))

pub sound_limited : {G T : Type 0} (m : Model G T) (F : Table G T) → Sound m F → Limited F
sound_limited {G} m F ok = record {
  states = ok.few_states;
  rules = ok.few_rules;
  outputs = ok.few_outputs;
  finals = all_nth (λ (s : State). s.finals ≤ 32) F.states ok.short_final;
  pieces = all_nth (λ (r : Rule G). r.outputs ≤ 32) F.rules ok.short_output;
}
