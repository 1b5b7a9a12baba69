-- One turn of the check of all rules' outputs.
use Rattle.std.proofs.Common.{◌≡◌, ℕ, ◌+◌, ◌<◌, List, length, get_or, take, drop, Ok, sym, ap, ◌∙◌}
use Rattle.std.proofs.lemmas.List.{at_drop_more, drop-drop}
use Rattle.std.proofs.lemmas.List.Sums.{sum_by-drop_more}
use Rattle.alphabet.specs.Model.{Model}
use Rattle.table.specs.declared.entries.Rule.{Rule}
use Rattle.table.specs.Table.{rule_total_of}
use Rattle.table.specs.Check.{Checked, each, next, check_output_lem, check_rule_outputs_lem}

module _ {G T : Type 0} (m : Model G T) (rules : List (Rule G)) (ts : List T) (k i : ℕ) (r : Rule G) (within : i < length rules) (read : r ≡ get_or rules i r) where
  -- the outputs of the rule at i, and those after them
  abbrev pub Here : Checked → Type 0
  Here o = each (check_output_lem m r.guard) k (take r.outputs (drop k ts)) ≡ o

  rest : List T → Checked
  rest later = check_rule_outputs_lem m (k + r.outputs) (drop (i + 1) rules) later

  turn : (o : Checked) → Here o → check_rule_outputs_lem m k (drop i rules) (drop k ts) ≡ next o (check_rule_outputs_lem m (k + r.outputs) (drop (i + 1) rules) (drop (k + r.outputs) ts))
  unfolding rest
  turn o e =
      at_drop_more (λ rs. check_rule_outputs_lem m k rs (drop k ts)) rules i r within
      ∙ ap (λ (x : Rule G). next (each (check_output_lem m x.guard) k (take x.outputs (drop k ts))) (check_rule_outputs_lem m (k + x.outputs) (drop (i + 1) rules) (drop x.outputs (drop k ts)))) (sym read)
      ∙ ap (λ p. next p (rest (drop r.outputs (drop k ts)))) e
      ∙ ap (λ l. next o (rest l)) (drop-drop r.outputs k ts)

  pub outputs_go_on : Here (Ok tt) → check_rule_outputs_lem m k (drop i rules) (drop k ts) ≡ check_rule_outputs_lem m (k + r.outputs) (drop (i + 1) rules) (drop (k + r.outputs) ts)
  outputs_go_on e = turn (Ok tt) e

  -- the counts of the rules from i on
  pub total_more : rule_total_of (drop i rules) ≡ r.outputs + rule_total_of (drop (i + 1) rules)
  total_more = sum_by-drop_more (λ (x : Rule G). x.outputs) rules i r within ∙ ap (λ (x : Rule G). x.outputs + rule_total_of (drop (i + 1) rules)) (sym read)
