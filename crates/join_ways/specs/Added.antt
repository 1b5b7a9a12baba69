-- Lines that are added to a rule list and an output list.
use Rattle.std.specs.Prelude.{◌≡◌, ℕ, ◌+◌, ◌≤◌, List, map, length, Ok, Err, Result}
use Rattle.std.specs.List.{AllByRecursion}
use Rattle.table.specs.declared.entries.Rule.{Rule}
use Rattle.join_laws.specs.Lists.{gathered}
use Rattle.join_laws.specs.Lines.{Line, rule_of_lem}
use Rattle.join_ways.specs.declared.write.TooLarge.{TooLarge}
use Rattle.join_ways.specs.declared.slice_vec.SliceVec.{SliceVec}
use Rattle.join_ways.specs.Written.{spliced}

-- how many rules and outputs there are
pub record Counts : Type 0 where
  pub rules : ℕ
  pub outputs : ℕ

-- all outputs of lines
abbrev pub outputs_of_lem : {G T : Type 0} → List (Line G T) → List T
outputs_of_lem {G} {T} ls = gathered (λ (l : Line G T). l.outputs) ls

-- behind the entries counted so far, the lists have room for the lines, and no line has more than 32 outputs
pub record Fits {G T : Type 0} (c : Counts) (ls : List (Line G T)) (rules : List (Rule G)) (outputs : List T) : Type 0 where
  pub rules_fit : c.rules + length ls ≤ length rules
  pub outputs_fit : c.outputs + length (outputs_of_lem ls) ≤ length outputs
  pub short : AllByRecursion (λ (l : Line G T). length l.outputs ≤ 32) ls

-- the lines were written behind the entries counted by c, and d counts them too
pub record Added {G T : Type 0} (c d : Counts) (ls : List (Line G T)) (rules rules' : List (Rule G)) (outputs outputs' : List T) : Type 0 where
  pub fits : Fits c ls rules outputs
  pub rule_count : d.rules ≡ c.rules + length ls
  pub output_count : d.outputs ≡ c.outputs + length (outputs_of_lem ls)
  pub rules_are : rules' ≡ spliced c.rules (map rule_of_lem ls) rules
  pub outputs_are : outputs' ≡ spliced c.outputs (outputs_of_lem ls) outputs

-- the lists of rules and of outputs
pub record Lines (G T : Type 0) : Type 0 where
  pub rules : SliceVec (Rule G)
  pub outputs : SliceVec T

abbrev pub lines : {G T : Type 0} → SliceVec (Rule G) → SliceVec T → Lines G T
lines r o = record { rules = r; outputs = o }

-- how much there is so far
abbrev pub counts : {G T : Type 0} → Lines G T → Counts
counts l = record { rules = l.rules.count; outputs = l.outputs.count }

-- they have room for these lines
abbrev pub FitsIn : {G T : Type 0} → List (Line G T) → Lines G T → Type 0
FitsIn ls l = Fits (counts l) ls l.rules.items.now l.outputs.items.now

-- these lines were added
abbrev pub AddedTo : {G T : Type 0} → List (Line G T) → Lines G T → Lines G T → Type 0
AddedTo ls before after = Added (counts before) (counts after) ls before.rules.items.now after.rules.items.now before.outputs.items.now after.outputs.items.now

-- the lines are added, or refused because they do not fit
abbrev pub Adds : {G T : Type 0} → List (Line G T) → Lines G T → Lines G T → Result Unit TooLarge → Type 0
Adds ls before after (Ok u) = AddedTo ls before after
Adds ls before after (Err e) = FitsIn ls before → ⊥
