-- What the check of the rules accepts, and so leaves: sound guards.
use Rattle.std.proofs.Common.{◌≡◌, ℕ, ◌<◌, ◌≤◌, List, Ok, arith}
use Rattle.std.specs.List.{AllByRecursion}
use Rattle.std.proofs.ByRecursion.{All-weaker}
use Rattle.std.proofs.lemmas.Bool.Decides.{nat_tests}
use Rattle.alphabet.specs.Model.{Model, SoundGuard}
use Rattle.table.specs.declared.entries.Rule.{Rule}
use Rattle.table.specs.Check.{each, check_rule_lem, SoundGuards}
use Rattle.table.proofs.Accepts.{Accepts, accepts_each}

module _ {G T : Type 0} (m : Model G T) (n : ℕ) where
  abbrev pub GoodRule : Rule G → Type 0
  GoodRule r = (r.state < n) × (r.next < n) × SoundGuard m r.guard × (r.outputs ≤ 32)

  accepts_rule : (i : ℕ) (r : Rule G) → Accepts (check_rule_lem m n i r) (GoodRule r)
  accepts_rule i r = (λ e. grind (arith, nat_tests), λ good. grind (arith, nat_tests))

  pub accepts_rules : (k : ℕ) (rules : List (Rule G)) → Accepts (each (check_rule_lem m n) k rules) (AllByRecursion GoodRule rules)
  accepts_rules = accepts_each GoodRule (check_rule_lem m n) accepts_rule

  pub good_guards : (rules : List (Rule G)) → AllByRecursion GoodRule rules → SoundGuards m rules
  good_guards = All-weaker GoodRule (λ (r : Rule G). SoundGuard m r.guard) (λ r good. good.2)

  pub rules_sound : (k : ℕ) (rules : List (Rule G)) → each (check_rule_lem m n) k rules ≡ Ok tt → SoundGuards m rules
  rules_sound k rules e = good_guards rules ((accepts_rules k rules).0 e)
