-- Runs of symbols at the states of two filters: neighbouring symbols that the same pair of rules holds.
use Rattle.std.specs.Prelude.{ℕ, ◌-◌, min, Bool, true, false, not, ◌&&◌, ◌||◌, is_some, Some, None, Option, ◌==◌, nat_le}
use Rattle.alphabet.specs.Model.{Model}
use Rattle.table.specs.declared.entries.Rule.{Rule}
use Rattle.table.specs.Table.{Table}
use Rattle.filter.specs.Machines.{pick}

-- the number of a rule that is picked
abbrev pub number_of : {G : Type 0} → Option (ℕ × Rule G) → Option ℕ
number_of None = None
number_of (Some x) = Some x.0

-- the number of the rule that holds s at a state, or none; a dead side has no rules
abbrev pub rule_at_lem : {G T : Type 0} → Model G T → Table G T → Option ℕ → ℕ → Option ℕ
rule_at_lem m F None s = None
rule_at_lem m F (Some p) s = number_of (pick m p s 0 F.rules)

-- the same rule, or none both times
abbrev pub same_rule_of : Option ℕ → Option ℕ → Bool
same_rule_of None None = true
same_rule_of None (Some j) = false
same_rule_of (Some i) None = false
same_rule_of (Some i) (Some j) = i == j

-- the lower of two numbers, where there are any
abbrev pub lower_of : Option ℕ → Option ℕ → Option ℕ
lower_of None b = b
lower_of (Some x) None = Some x
lower_of (Some x) (Some y) = Some (min x y)

-- a rule of the side holds s; f gives the rule of the side at a symbol
abbrev pub holds_any : (ℕ → Option ℕ) → ℕ → Bool
holds_any f s = is_some (f s)

-- the side has another rule at s than at c
abbrev pub changed : (ℕ → Option ℕ) → ℕ → ℕ → Bool
changed f c s = not (same_rule_of (f s) (f c))

-- the side has the same rule at s and at the two symbols before it
abbrev pub thrice : (ℕ → Option ℕ) → ℕ → Bool
thrice f s = nat_le 2 s && same_rule_of (f (s - 1)) (f s) && same_rule_of (f (s - 2)) (f s)

-- the two sides, given by their rules at a symbol
module _ (f g : ℕ → Option ℕ) where
  -- a rule of either side holds s
  abbrev pub held : ℕ → Bool
  held s = holds_any f s || holds_any g s

  -- the run of c is over at s
  abbrev pub over : ℕ → ℕ → Bool
  over c s = changed f c s || changed g c s

  -- s is the first or the second symbol of a run, and some rule holds it
  abbrev pub worth : ℕ → Bool
  worth s = held s && not (thrice f s && thrice g s)
