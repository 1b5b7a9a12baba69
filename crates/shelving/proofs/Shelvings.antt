-- A run of filings goes on with a history, and leaves a collection whose holdings can all be told apart.
use Rattle.std.proofs.Common.{◌≡◌, ℕ, ◌+◌, ◌*◌, ◌<◌, ◌≤◌, max, true, ◌⊎◌, List, ◌∷◌, length, Result, sym, ap, ◌∙◌, subst, inl, inr, mul_comm, arith}
use native.Mathlib.Nat.{max_comm}
use Rattle.alphabet.specs.Model.{Model}
use Rattle.alphabet.specs.Laws.{Lawful}
use Rattle.table.specs.Table.{Table}
use Rattle.answers.specs.declared.fault.Fault.{Fault}
use Rattle.replay.specs.Sizes.{longest_of}
use Rattle.judging.specs.Frames.{width_of, room_of}
use Rattle.equivalence.specs.Answers.{steps_for}
use Rattle.holdings.specs.Memory.{Memory, holding}
use Rattle.holdings.specs.Append.{appended, room_for, Adds}
use Rattle.holdings.proofs.Appends.{adds}
use Rattle.shelf_law.specs.Holdings.{EveryHolding}
use Rattle.shelf_law.specs.Scratch.{Scratch, Enough}
use Rattle.shelf_law.specs.Placing.{Placing, short_scratch, double, full, held}
use Rattle.shelf_law.specs.Calls.{Request, Filing, Readable, Does, unreadable, unsound, no_first, no_second, too_large, files, joins}
use Rattle.shelf_law.specs.History.{Call, call_of, Reached, calling}
use Rattle.holdings.proofs.ReadThrough.{readable_fits}
use Rattle.shelf_law.proofs.Laws.{law_holds_lem}
use Rattle.shelving.specs.declared.report.Verdict.{Verdict}
use Rattle.shelving.specs.Runs.{Run, begun, filed}
use Rattle.shelving.specs.Separable.{Paired, Separable}

module _ {G T : Type 0} (m : Model G T) (S : Scratch) where
  -- what is enough to compare two filters is enough the other way round
  steps_both : (F H : Table G T) → steps_for m F H ≡ steps_for m H F
  steps_both F H = omega (arith, mul_comm (length F.states) (length H.states))

  room_both : (F H : Table G T) → room_of F H ≡ room_of H F
  room_both F H =
      ap (λ n. (n + 1) * width_of F H) (steps_both F H) ∙ ap (λ w. (steps_for m H F + 1) * max 1 w) (max_comm (longest_of F) (longest_of H))

  enough_both : (F H : Table G T) → Enough m S F H → Enough m S H F
  enough_both F H e = (omega (arith, e.0, steps_both F H), omega (arith, e.1, room_both F H))

  -- one filter more: the scratch was enough against every holding
  module _ (M : Memory G T) (ok : Readable m M) (paired : Paired m S M) where
    appended_paired : (F : Table G T) → EveryHolding M (Enough m S F) → room_for M F ≡ true → Paired m S (appended M F)
    appended_paired F enough room i j less within = go (grind arith)
      where
        more : Adds M F (appended M F)
        more = adds M F (readable_fits m M ok) room

        go : (j < M.head.holdings) ⊎ (M.head.holdings ≡ j) → Enough m S (holding (appended M F) i) (holding (appended M F) j)
        go (inl l) =
            subst (λ X. Enough m S X (holding (appended M F) j)) (sym (more.kept i (omega arith))) (subst (Enough m S (holding M i)) (sym (more.kept j l)) (paired i j less l))
        go (inr same) =
            let last : holding (appended M F) j ≡ F = ap (holding (appended M F)) (sym same) ∙ more.last in
            subst (λ X. Enough m S X (holding (appended M F) j)) (sym (more.kept i (omega arith))) (subst (Enough m S (holding M i)) (sym last) (enough_both F (holding M i) (enough i (omega arith))))

    placing_paired : (F : Table G T) (r : Result ℕ Fault) (A : Memory G T) → Placing m S M F r A → Paired m S A
    placing_paired F r A (short_scratch n low) = paired
    placing_paired F r A (double n e low) = paired
    placing_paired F r A (full e new room) = paired
    placing_paired F r A (held e new room) = appended_paired F e room

    does_paired : (q : Request G T) (r : Result ℕ Fault) (A : Memory G T) → Does m S M q r A → Paired m S A
    does_paired q r A (unreadable q₁ f e) = paired
    does_paired q r A (unsound D f o e) = paired
    does_paired q r A (no_first i j L o none) = paired
    does_paired q r A (no_second i j L o has none) = paired
    does_paired q r A (too_large i j L o hi hj over) = paired
    does_paired q r A (files D r₁ A₁ o e p) = placing_paired D r A p
    does_paired q r A (joins i j L r₁ A₁ o hi hj limited room p) = placing_paired _ r A p

  -- a history to a memory, in which any two holdings can be compared with the scratch
  pub record Led (M : Memory G T) : Type 0 where
    pub history : List (Call G T)
    pub reached : Reached m history M
    pub paired : Paired m S M

  module _ (laws : Lawful m) (bodies M : Memory G T) (start : Led M) where
    pub run_led : (n : ℕ) (vs : List Verdict) (A : Memory G T) → Run m S bodies M n vs A → Led A
    run_led n vs A begun = start
    run_led n vs A (filed k ws B A₁ r R D) = go (run_led k ws B R)
      where
        go : Led B → Led A
        go before =
            let L = law_holds_lem m laws before.history B before.reached in
            record {
              history = call_of (Filing (holding bodies k)) S B r A ∷ before.history;
              reached = calling (call_of (Filing (holding bodies k)) S B r A) before.reached D;
              paired = does_paired B L.readable before.paired (Filing (holding bodies k)) r A D;
            }

  -- so any two holdings can be told apart
  pub led_separable : Lawful m → (M : Memory G T) → Led M → (n : ℕ) → S.steps ≤ n → Separable m S n M
  led_separable laws M led n room = record { told = (law_holds_lem m laws led.history M led.reached).told_apart; paired = led.paired; witness = room }
