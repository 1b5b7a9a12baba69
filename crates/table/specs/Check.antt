-- The first fault of a table, in the order in which faults are looked for.
use Rattle.std.specs.Prelude.{ℕ, ◌+◌, Bool, false, cond, not, ◌&&◌, ◌||◌, List, [], ◌∷◌, ◌++◌, length, take, drop, is_some, Ok, Err, Result, ◌==◌, nat_le, nat_lt}
use Rattle.std.specs.List.{AllByRecursion}
use Rattle.alphabet.specs.declared.cause.Cause.TheVariants.{NotSuiting}
use Rattle.alphabet.specs.Model.{Model, SoundGuard}
use Rattle.alphabet.specs.Questions.{suits, constant_of, shares}
use Rattle.table.specs.declared.entries.State.{State}
use Rattle.table.specs.declared.entries.Rule.{Rule}
use Rattle.table.specs.declared.fault.TableFault.{TableFault}
use Rattle.table.specs.declared.fault.TableFault.TheVariants.{Limits, BadState, MissingState, UnsoundGuard, LongOutput, OutputCount, NotConstant, UnsoundOutput, Overlap}
use Rattle.table.specs.Results.{map_err}
use Rattle.table.specs.Table.{Table, final_total_of, rule_total_of, all_rule_outputs}

abbrev pub Checked : Type 0
Checked = Result Unit TableFault

-- the first fault of two
abbrev pub next : Checked → Checked → Checked
next (Ok x) later = later
next (Err f) later = Err f

-- the fault, unless the test is passed
abbrev pub unless : Bool → TableFault → Checked
unless b f = cond b (Ok tt) (Err f)

-- the first fault of a list's items, of which the first has the number k
abbrev pub each : {X : Type 0} → (ℕ → X → Checked) → ℕ → List X → Checked
each f k [] = Ok tt
each f k (x ∷ xs) = next (f k x) (each f (k + 1) xs)

-- 1 to 64 states, at most 1,024 rules and 4,096 outputs
abbrev pub limits_of : ℕ → ℕ → ℕ → Checked
limits_of states rules outputs = unless (nat_le 1 states && nat_le states 64 && nat_le rules 1024 && nat_le outputs 4096) Limits

-- a mark of 0 or 1, at most 32 final outputs, and none where the state rejects
abbrev pub good_state : State → Bool
good_state s = nat_le s.mark 1 && nat_le s.finals 32 && (s.mark == 1 || s.finals == 0)

abbrev pub check_state_lem : ℕ → State → Checked
check_state_lem q s = unless (good_state s) (BadState q)

-- each rule has a sound guard
abbrev pub SoundGuards : {G T : Type 0} → Model G T → List (Rule G) → Type 0
SoundGuards {G} m rules = AllByRecursion (λ (r : Rule G). SoundGuard m r.guard) rules

module _ {G T : Type 0} (m : Model G T) where
  -- a rule's two states are among n, its guard is sound, and it has at most 32 outputs
  abbrev pub check_rule_lem : ℕ → ℕ → Rule G → Checked
  check_rule_lem n i r =
      next (unless (nat_lt r.state n && nat_lt r.next n) (MissingState i))
      (next (map_err (UnsoundGuard i) (m.check_guard r.guard)) (unless (nat_le r.outputs 32) (LongOutput i)))

  -- a final output is sound and a constant
  abbrev pub check_final_lem : ℕ → T → Checked
  check_final_lem k t = next (map_err (UnsoundOutput k) (m.check_term t)) (unless (is_some (constant_of m t)) (NotConstant k))

  -- an output of a rule is sound and suits the rule's guard
  abbrev pub check_output_lem : G → ℕ → T → Checked
  check_output_lem g k t = next (map_err (UnsoundOutput k) (m.check_term t)) (unless (suits m t g) (UnsoundOutput k NotSuiting))

  -- the outputs of each rule, of which the first has the number k
  abbrev pub check_rule_outputs_lem : ℕ → List (Rule G) → List T → Checked
  check_rule_outputs_lem k [] ts = Ok tt
  check_rule_outputs_lem k (r ∷ rs) ts =
      next (each (check_output_lem r.guard) k (take r.outputs ts)) (check_rule_outputs_lem (k + r.outputs) rs (drop r.outputs ts))

  -- two rules of one state share a symbol
  abbrev pub clash : Rule G → Rule G → Bool
  clash r e = e.state == r.state && shares m e.guard r.guard

  -- the rule clashes with one of these
  abbrev pub clashes : Rule G → List (Rule G) → Bool
  clashes r [] = false
  clashes r (e ∷ es) = clash r e || clashes r es

  -- the least rule that clashes with an earlier one; i of them stand before
  abbrev pub check_overlaps_lem : ℕ → List (Rule G) → List (Rule G) → Checked
  check_overlaps_lem i before [] = Ok tt
  check_overlaps_lem i before (r ∷ rs) = next (unless (not (clashes r before)) (Overlap i)) (check_overlaps_lem (i + 1) (before ++ r ∷ []) rs)

  -- the table's first fault: limits, states, rules, the number of outputs, output by output, overlaps
  abbrev pub checked : Table G T → Checked
  checked F =
      let finals = final_total_of F.states in
      next (limits_of (length F.states) (length F.rules) (length F.outputs))
      (next (each check_state_lem 0 F.states)
      (next (each (check_rule_lem (length F.states)) 0 F.rules)
      (next (unless (length F.outputs == finals + rule_total_of F.rules) OutputCount)
      (next (each check_final_lem 0 (take finals F.outputs))
      (next (check_rule_outputs_lem finals F.rules (all_rule_outputs F))
      (check_overlaps_lem 0 [] F.rules))))))
