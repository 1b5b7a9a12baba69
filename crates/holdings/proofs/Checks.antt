-- One turn of the check of all holdings.
use Rattle.std.proofs.Common.{◌≡◌, ℕ, ◌+◌, ◌<◌, ◌≤◌, true, cond, length, drop, Ok, Err, Result, sym, ap, ◌∙◌, arith}
use Rattle.std.proofs.lemmas.List.{at_drop_more, at_drop_all, length-take-le}
use Rattle.alphabet.specs.Model.{Model}
use Rattle.table.specs.Check.{checked}
use Rattle.table.specs.Results.{map_err}
use Rattle.answers.specs.declared.fault.Fault.{Fault}
use Rattle.answers.specs.declared.fault.Fault.TheVariants.{Misfit, Unsound}
use Rattle.holdings.specs.Memory.{Memory, in_use, fits, holding}
use Rattle.holdings.specs.Check.{next, check_from, checked_shelf}
use Rattle.holdings.proofs.Parts.{blank, fitting}

module _ {G T : Type 0} (m : Model G T) (M : Memory G T) (ok : fits M ≡ true) where
  in_use_lem : length (in_use M) ≡ M.head.holdings
  in_use_lem = length-take-le M.head.holdings M.ledger (fitting M ok).long

  -- a shelf that fits is as good as its holdings
  pub shelf_is : check_from m M 0 (in_use M) ≡ checked_shelf m M
  shelf_is = sym (ap (λ b. cond b (check_from m M 0 (in_use M)) (Err Misfit)) ok)

  pub all_checked : (i : ℕ) → M.head.holdings ≤ i → check_from m M i (drop i (in_use M)) ≡ Ok tt
  all_checked i left = at_drop_all (check_from m M i) (in_use M) i (omega (arith, in_use_lem))

  module _ (i : ℕ) (within : i < M.head.holdings) where
    turn : (r : Result Unit Fault) → map_err (Unsound (i + 1)) (checked m (holding M i)) ≡ r → check_from m M i (drop i (in_use M)) ≡ next r (check_from m M (i + 1) (drop (i + 1) (in_use M)))
    turn r e =
        at_drop_more (check_from m M i) (in_use M) i blank (omega (arith, in_use_lem))
        ∙ ap (λ o. next o (check_from m M (i + 1) (drop (i + 1) (in_use M)))) e

    pub holding_unsound : (f : Fault) → map_err (Unsound (i + 1)) (checked m (holding M i)) ≡ Err f → check_from m M i (drop i (in_use M)) ≡ Err f
    holding_unsound f e = turn (Err f) e

    pub holding_sound : map_err (Unsound (i + 1)) (checked m (holding M i)) ≡ Ok tt → check_from m M i (drop i (in_use M)) ≡ check_from m M (i + 1) (drop (i + 1) (in_use M))
    holding_sound e = turn (Ok tt) e
