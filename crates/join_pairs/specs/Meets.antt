-- Meeting pairs: what a queue of pairs holds then, and which numbers rules get.
use Rattle.std.specs.Prelude.{◌≡◌, ℕ, ◌<◌, ◌≤◌, cond, List, map, length, Some, None, Ok, Err, Option, Result, nat_lt}
use Rattle.table.specs.declared.entries.Rule.{Rule}
use Rattle.join_laws.specs.Pairs.{Pair, place, met, met_all}
use Rattle.join_ways.specs.declared.write.TooLarge.{TooLarge}

-- the number of a pair, if it was met
abbrev pub known : List Pair → Pair → Option ℕ
known P x = cond (nat_lt (place P x) (length P)) (Some (place P x)) None

-- the pair was met and has this number; or there is no room for it
abbrev pub Meets : List Pair → Pair → ℕ → List Pair → Result ℕ TooLarge → Type 0
Meets P x room P' (Ok n) = (P' ≡ met P x) × (n ≡ place P' x) × (length P' ≤ room)
Meets P x room P' (Err e) = room < length (met P x)

-- the pairs that rules lead to, whose targets are states of the second filter, where the first goes to p
abbrev pub targets_of : {G : Type 0} → ℕ → List (Rule G) → List Pair
targets_of {G} p rules = map (λ (r : Rule G). (p, r.next)) rules

-- a rule with the number of its target
abbrev pub renumbered : {G : Type 0} → List Pair → ℕ → Rule G → Rule G
renumbered P p r = record { state = r.state; next = place P (p, r.next); outputs = r.outputs; guard = r.guard }

-- all targets were met, and the rules have their numbers; or there is no room for them
abbrev pub Numbers : {G : Type 0} → ℕ → List Pair → ℕ → List (Rule G) → List Pair → List (Rule G) → Result Unit TooLarge → Type 0
Numbers p P room rules P' rules' (Ok u) = (P' ≡ met_all P (targets_of p rules)) × (rules' ≡ map (renumbered P' p) rules) × (length P' ≤ room)
Numbers p P room rules P' rules' (Err e) = room < length (met_all P (targets_of p rules))
