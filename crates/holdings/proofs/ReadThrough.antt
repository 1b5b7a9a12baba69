-- A shelf can be read where head, ledger and lists fit and every holding passes the check.
use Rattle.std.proofs.Common.{◌≡◌, ℕ, ◌+◌, ◌<◌, ◌≤◌, Bool, true, false, cond, ◌⊎◌, List, [], ◌∷◌, length, Ok, Err, Result, sym, refl, ap, ◌∙◌, subst, inl, inr, arith}
use Rattle.std.proofs.lemmas.List.{length-take-le}
use Rattle.std.proofs.lemmas.Bool.Decides.{nat_tests}
use Rattle.alphabet.specs.Model.{Model}
use Rattle.alphabet.specs.Laws.{Lawful}
use Rattle.table.specs.declared.entries.State.{State}
use Rattle.table.specs.declared.entries.Rule.{Rule}
use Rattle.table.specs.Check.{Checked, checked}
use Rattle.table.specs.Results.{map_err}
use Rattle.table.specs.Table.{Table}
use Rattle.table.specs.Sound.{Sound}
use Rattle.table.proofs.Soundness.{sound_from_checked}
use Rattle.holdings.specs.declared.memory.Entry.{Entry}
use Rattle.answers.specs.declared.fault.Fault.{Fault}
use Rattle.answers.specs.declared.fault.Fault.TheVariants.{Misfit, Unsound}
use Rattle.holdings.specs.Memory.{Memory, in_use, fits, holding, opened}
use Rattle.holdings.specs.Check.{next, check_from, checked_shelf}
use Rattle.holdings.specs.Append.{room_for, appended, Adds}
use Rattle.holdings.proofs.Parts.{fitting}
use Rattle.holdings.proofs.Appends.{adds}

at_or_above : (i k : ℕ) → i ≤ k → (i ≡ k) ⊎ (i + 1 ≤ k)
at_or_above i k low = grind arith

-- two checks pass where each does
first_passes : (n : ℕ) (r : Checked) (later : Result Unit Fault) → next (map_err (Unsound n) r) later ≡ Ok tt → r ≡ Ok tt
first_passes n (Ok tt) later e = refl
first_passes n (Err f) later e = grind arith

later_passes : (n : ℕ) (r : Checked) (later : Result Unit Fault) → next (map_err (Unsound n) r) later ≡ Ok tt → later ≡ Ok tt
later_passes n (Ok x) later e = e
later_passes n (Err f) later e = grind arith

both_pass_lem : (n : ℕ) (r : Checked) (later : Result Unit Fault) → r ≡ Ok tt → later ≡ Ok tt → next (map_err (Unsound n) r) later ≡ Ok tt
both_pass_lem n (Ok x) later e f = f
both_pass_lem n (Err x) later e f = grind arith

module _ {G T : Type 0} (m : Model G T) (M : Memory G T) where
  -- the holding at i passes the check
  abbrev Passes : ℕ → Type 0
  Passes i = checked m (holding M i) ≡ Ok tt

  all_pass_lem : (i : ℕ) (es : List Entry) → check_from m M i es ≡ Ok tt → (k : ℕ) → i ≤ k → k < i + length es → Passes k
  all_pass_lem i [] e k low high = absurd (omega arith)
  all_pass_lem i (x ∷ es) e k low high =
      let rest = check_from m M (i + 1) es in
      let here = first_passes (i + 1) (checked m (holding M i)) rest e in
      let later = all_pass_lem (i + 1) es (later_passes (i + 1) (checked m (holding M i)) rest e) k in
      go here later (at_or_above i k low)
    where
      go : Passes i → (i + 1 ≤ k → k < i + 1 + length es → Passes k) → (i ≡ k) ⊎ (i + 1 ≤ k) → Passes k
      go here later (inl same) = subst Passes same here
      go here later (inr above) = later above (omega arith)

  check_passes : (i : ℕ) (es : List Entry) → ((k : ℕ) → i ≤ k → k < i + length es → Passes k) → check_from m M i es ≡ Ok tt
  check_passes i [] p = refl
  check_passes i (x ∷ es) p =
      both_pass_lem (i + 1) (checked m (holding M i)) (check_from m M (i + 1) es) (p i (omega arith) (omega arith))
      (check_passes (i + 1) es (λ k low high. p k (omega arith) (omega arith)))

  in_use_lem : fits M ≡ true → length (in_use M) ≡ M.head.holdings
  in_use_lem ok = length-take-le M.head.holdings M.ledger (fitting M ok).long

  pub readable_fits : checked_shelf m M ≡ Ok tt → fits M ≡ true
  readable_fits e = go (fits M) e
    where
      go : (b : Bool) → cond b (check_from m M 0 (in_use M)) (Err Misfit) ≡ Ok tt → b ≡ true
      go true e = refl
      go false e = grind arith

  readable_checks : checked_shelf m M ≡ Ok tt → check_from m M 0 (in_use M) ≡ Ok tt
  readable_checks e = go (fits M) e
    where
      go : (b : Bool) → cond b (check_from m M 0 (in_use M)) (Err Misfit) ≡ Ok tt → check_from m M 0 (in_use M) ≡ Ok tt
      go true e = e
      go false e = grind arith

  pub readable_holdings : checked_shelf m M ≡ Ok tt → (i : ℕ) → i < M.head.holdings → checked m (holding M i) ≡ Ok tt
  readable_holdings e i within =
      let count = in_use_lem (readable_fits e) in
      all_pass_lem 0 (in_use M) (readable_checks e) i (omega arith) (omega (arith, count))

  pub readable : fits M ≡ true → ((i : ℕ) → i < M.head.holdings → checked m (holding M i) ≡ Ok tt) → checked_shelf m M ≡ Ok tt
  readable ok p =
      ap (λ b. cond b (check_from m M 0 (in_use M)) (Err Misfit)) ok
      ∙ check_passes 0 (in_use M) (λ k low high. p k (let count = in_use_lem ok in omega (arith, count)))

module _ {G T : Type 0} (m : Model G T) where
  -- a shelf just opened can be read
  pub opened_readable : (ledger : List Entry) (states : List State) (rules : List (Rule G)) (outputs : List T) → checked_shelf m (opened ledger states rules outputs) ≡ Ok tt
  opened_readable ledger states rules outputs = readable m (opened ledger states rules outputs) (grind (arith, nat_tests)) (λ i within. absurd (omega arith))

  -- its holdings are sound
  pub readable_sound : Lawful m → (M : Memory G T) → checked_shelf m M ≡ Ok tt → (i : ℕ) → i < M.head.holdings → Sound m (holding M i)
  readable_sound laws M e i within = sound_from_checked m laws (holding M i) (readable_holdings m M e i within)

  -- a shelf that can be read still can with one more sound holding
  pub appended_readable : (M : Memory G T) (F : Table G T) → checked_shelf m M ≡ Ok tt → room_for M F ≡ true → checked m F ≡ Ok tt → checked_shelf m (appended M F) ≡ Ok tt
  appended_readable M F e room sound = readable m (appended M F) more.fitting holdings
    where
      more : Adds M F (appended M F)
      more = adds M F (readable_fits m M e) room

      holdings : (i : ℕ) → i < M.head.holdings + 1 → checked m (holding (appended M F) i) ≡ Ok tt
      holdings i within = go (grind arith)
        where
          go : (i < M.head.holdings) ⊎ (M.head.holdings ≡ i) → checked m (holding (appended M F) i) ≡ Ok tt
          go (inl l) = ap (checked m) (more.kept i l) ∙ readable_holdings m M e i l
          go (inr same) = ap (λ k. checked m (holding (appended M F) k)) (sym same) ∙ ap (checked m) more.last ∙ sound
