-- The joined filter in the lists that were handed in.
use Rattle.std.specs.Prelude.{◌≡◌, ℕ, ◌≤◌, List, ◌++◌, length, drop, Ok, Err, Result}
use Rattle.std.specs.List.{AllByRecursion}
use Rattle.table.specs.declared.entries.State.{State}
use Rattle.table.specs.declared.entries.Rule.{Rule}
use Rattle.table.specs.Table.{Table}
use Rattle.join_laws.specs.Theorems.{Limited}
use Rattle.join_ways.specs.declared.write.TooLarge.{TooLarge}
use Rattle.join_ways.specs.Written.{spliced}
use Rattle.join.specs.declared.Sizes.{Sizes}

module _ {G T : Type 0} (J : Table G T) where
  -- a table has room for its states, and in the lists for its rules and outputs, of which no piece is over 32
  pub record Fitting (room : ℕ) (rules : List (Rule G)) (outputs : List T) : Type 0 where
    pub states : length J.states ≤ room
    pub rules_fit : length J.rules ≤ length rules
    pub outputs_fit : length J.outputs ≤ length outputs
    pub finals : AllByRecursion (λ (s : State). s.finals ≤ 32) J.states
    pub pieces : AllByRecursion (λ (r : Rule G). r.outputs ≤ 32) J.rules

  -- the lists begin with the table, and go on as before
  pub record Written (room : ℕ) (n : Sizes) (states states' : List State) (rules rules' : List (Rule G)) (outputs outputs' : List T) : Type 0 where
    pub fits : Fitting room rules outputs
    pub state_count : n.states ≡ length J.states
    pub rule_count : n.rules ≡ length J.rules
    pub output_count : n.outputs ≡ length J.outputs
    pub states_are : states' ≡ spliced 0 J.states states
    pub rules_are : rules' ≡ spliced 0 J.rules rules
    pub outputs_are : outputs' ≡ spliced 0 J.outputs outputs

  -- the table is written, or it is refused because it does not fit
  abbrev pub Fills : ℕ → List State → List State → List (Rule G) → List (Rule G) → List T → List T → Result Sizes TooLarge → Type 0
  Fills room states states' rules rules' outputs outputs' (Ok n) = Written room n states states' rules rules' outputs outputs'
  Fills room states states' rules rules' outputs outputs' (Err e) = Fitting room rules outputs → ⊥

  -- a table is within the limits (64 states, 1,024 rules, 4,096 outputs, 32 of them in one piece), and has room
  pub record Roomy (pairs : ℕ) (states : List State) (rules : List (Rule G)) (outputs : List T) : Type 0 where
    pub limited : Limited J
    pub pairs_fit : length J.states ≤ pairs
    pub states_fit : length J.states ≤ length states
    pub rules_fit : length J.rules ≤ length rules
    pub outputs_fit : length J.outputs ≤ length outputs

  -- the three lists begin with the table and go on as before, and the sizes are the table's
  pub record Begun (pairs : ℕ) (n : Sizes) (states states' : List State) (rules rules' : List (Rule G)) (outputs outputs' : List T) : Type 0 where
    pub roomy : Roomy pairs states rules outputs
    pub state_count : n.states ≡ length J.states
    pub rule_count : n.rules ≡ length J.rules
    pub output_count : n.outputs ≡ length J.outputs
    pub states_are : states' ≡ J.states ++ drop (length J.states) states
    pub rules_are : rules' ≡ J.rules ++ drop (length J.rules) rules
    pub outputs_are : outputs' ≡ J.outputs ++ drop (length J.outputs) outputs

  -- the table, or a refusal exactly where it is over a limit or a list
  abbrev pub Answers : ℕ → List State → List State → List (Rule G) → List (Rule G) → List T → List T → Result Sizes TooLarge → Type 0
  Answers pairs states states' rules rules' outputs outputs' (Ok n) = Begun pairs n states states' rules rules' outputs outputs'
  Answers pairs states states' rules rules' outputs outputs' (Err e) = Roomy pairs states rules outputs → ⊥
