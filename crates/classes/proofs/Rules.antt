-- What the test for the same rule tells.
use Rattle.std.proofs.Common.{◌≡◌, ℕ, true, false, is_some, Some, None, Option, refl, ap, arith}
use Rattle.std.proofs.lemmas.Bool.{eqb-true, eq-eqb}
use Rattle.classes.specs.Runs.{same_rule_of}

pub same_rule_lem : (a b : Option ℕ) → same_rule_of a b ≡ true → a ≡ b
same_rule_lem None None e = refl
same_rule_lem None (Some j) e = grind arith
same_rule_lem (Some i) None e = grind arith
same_rule_lem (Some i) (Some j) e = ap Some (eqb-true i j e)

pub rule_same : (a b : Option ℕ) → a ≡ b → same_rule_of a b ≡ true
rule_same None None e = refl
rule_same None (Some j) e = grind arith
rule_same (Some i) None e = grind arith
rule_same (Some i) (Some j) e = let same : i ≡ j = cc in eq-eqb i j same

pub none_held : (o : Option ℕ) → is_some o ≡ false → o ≡ None
none_held None e = refl
none_held (Some i) e = grind arith
