use Rattle.std.proofs.Common.{◌≤◌, length, sym, ◌∙◌, arith, rules}
use Rattle.std.proofs.lemmas.Bool.Decides.{nat_tests}
use Rattle.table.proofs.Rules.{rules_sound}
use Rattle.table.proofs.Soundness.{told}
use Rattle.table.proofs.entries.Draft.check.Goals as goal

pub check_rule_outputs-requires : goal.check_rule_outputs-requires
check_rule_outputs-requires g c =
    let limits = sym c.check_limits.ensures ∙ c.in_ok-check_limits.was in
    let few : length c.args.self.now.outputs.now ≤ 4096 = grind (arith, nat_tests, limits) in
    record {
      sound = rules_sound g.A.Alphabet.model _ _ c.args.self.now.rules.now (sym c.check_rules.ensures ∙ c.in_ok-check_rules.was);
      count = omega arith;
      few = few;
    }

pub check_overlaps-requires : goal.check_overlaps-requires
check_overlaps-requires g c =
    rules_sound g.A.Alphabet.model _ _ c.args.self.now.rules.now (sym c.check_rules.ensures ∙ c.in_ok-check_rules.was)

pub returns-in_err-check_states : goal.returns-in_err-check_states
returns-in_err-check_states g c = told g.A.Alphabet.model g.A.Alphabet.laws _ _ (search rules)

pub returns-in_err-check_rules : goal.returns-in_err-check_rules
returns-in_err-check_rules g c = told g.A.Alphabet.model g.A.Alphabet.laws _ _ (search rules)

pub returns-in_err-check_finals : goal.returns-in_err-check_finals
returns-in_err-check_finals g c = told g.A.Alphabet.model g.A.Alphabet.laws _ _ (search rules)

pub returns-in_err-check_rule_outputs : goal.returns-in_err-check_rule_outputs
returns-in_err-check_rule_outputs g c = told g.A.Alphabet.model g.A.Alphabet.laws _ _ (search rules)

pub returns : goal.returns
returns g c = told g.A.Alphabet.model g.A.Alphabet.laws _ _ (search rules)
