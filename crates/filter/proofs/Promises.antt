-- From the answer of transducing to what it promises.
use Rattle.std.proofs.Common.{◌≡◌, ℕ, ◌≤◌, leb, List, ◌++◌, length, Some, None, Ok, Err, Option, Result, sym, refl, ap, ◌∙◌, subst, arith}
use Rattle.std.proofs.lemmas.Bool.{cond_both, leb-true, leb-false}
use Rattle.machine.specs.Machine.{Machine, run, and_then, transduced, prefixed}
use Rattle.machine.specs.Walk.{position}
use Rattle.alphabet.specs.Model.{Model}
use Rattle.alphabet.specs.Laws.{Lawful}
use Rattle.table.specs.Table.{Table}
use Rattle.table.specs.Check.{Checked, checked}
use Rattle.table.specs.Sound.{Sound}
use Rattle.table.proofs.Soundness.{sound_from_checked}
use Rattle.filter.specs.declared.outcome.Outcome.{Outcome}
use Rattle.filter.specs.declared.outcome.Outcome.TheVariants.{Written}
use Rattle.filter.specs.declared.outcome.TransduceFault.{TransduceFault}
use Rattle.filter.specs.declared.outcome.TransduceFault.TheVariants.{LongText, ShortOutput}
use Rattle.filter.specs.Agrees.{Agrees}
use Rattle.filter.specs.Machines.{machine_of}
use Rattle.filter.specs.Meaning.{Writes}
use Rattle.filter.specs.Outcomes.{closed, ended, answer_at, answer_for, output_after}
use Rattle.filter.specs.Promises.{after_check, Transduces}
use Rattle.filter.proofs.Moves.{some_before}
use Rattle.filter.proofs.Meanings.{agrees, run_paths, is_final, rejected_writes_nothing}
use Rattle.filter.proofs.Rejections.{rejected_at}

-- a text that does not end in an accepting state is rejected
ended_none : (M : Machine) (u : List ℕ) → ended M u ≡ None → transduced M u ≡ None
ended_none M u e = go (run M u 0) e
  where
    last : (x : List ℕ) (q : ℕ) (o : Option (List ℕ)) → closed q x o ≡ None → prefixed x o ≡ None
    last x q None h = refl
    last x q (Some y) h = grind arith

    go : (o : Option (ℕ × List ℕ)) → and_then o (λ r. closed r.0 r.1 (M.final r.0)) ≡ None → and_then o (λ r. prefixed r.1 (M.final r.0)) ≡ None
    go None h = refl
    go (Some r) h = last r.1 r.0 (M.final r.0) h

-- what was written on the way and at the end
closed_some : (p q : ℕ) (x v : List ℕ) (o : Option (List ℕ)) → closed p x o ≡ Some (q, v) → (y : List ℕ) × (o ≡ Some y) × (p ≡ q) × (v ≡ x ++ y)
closed_some p q x v None e = grind arith
closed_some p q x v (Some y) e =
    let pair : ◌≡◌ {A = ℕ × List ℕ} (p, x ++ y) (q, v) = cc in
    (y, refl, ap (λ (r : ℕ × List ℕ). r.0) pair, sym (ap (λ (r : ℕ × List ℕ). r.1) pair))

module _ {G T : Type 0} (m : Model G T) (F : Table G T) (L : Lawful m) (text before after : List ℕ) where
  M : Machine
  M = machine_of m F

  -- the end of a text, as what the filter writes for it
  writes_end : Sound m F → (q : ℕ) (v : List ℕ) → ended M text ≡ Some (q, v) → (w : Writes m F text v) × (w.end ≡ q)
  unfolding M
  writes_end S q v e =
      let a = some_before (run M text 0) (λ r. closed r.0 r.1 (M.final r.0)) (q, v) e in
      let r = a.0 in
      let b = closed_some r.0 q r.1 v (M.final r.0) a.2 in (
        record {
          end = r.0;
          on_the_way = r.1;
          at_the_end = b.0;
          path = run_paths m F L S text 0 r.1 r.0 a.1;
          final = is_final m F L S r.0 b.0 b.1;
          is = b.3;
        },
        b.2,
      )

  -- what is promised of an answer and the output that goes with it
  abbrev Keeps : Result Outcome TransduceFault → Type 0
  Keeps r = after ≡ output_after r (ended M text) before → Transduces m F text before after r

  module _ (S : Sound m F) where
    -- of a text that is not too long, by its end
    at_end : length text ≤ 1048576 → (e : Option (ℕ × List ℕ)) → ended M text ≡ e → Keeps (answer_at (position M text 0) (length before) e)
    unfolding M
    at_end short None e = λ k. record {
      worked = record { sound = S; short = short };
      rejects = rejected_at m F L S text (ended_none M text e);
      nothing = rejected_writes_nothing m F L S text (ended_none M text e);
      output = k;
    }
    at_end short (Some t) e =
        let w = writes_end S t.0 t.1 e in
        cond_both (leb (length t.1) (length before)) (Ok (Written t.0 (length t.1))) (Err (ShortOutput (length t.1))) Keeps
        (λ fits k. record {
          worked = record { sound = S; short = short };
          symbols = t.1;
          writes = w.0;
          reached = w.1;
          count = refl;
          output = k ∙ ap (λ o. output_after (Ok (Written t.0 (length t.1))) o before) e;
        })
        (λ fits k. record {
          worked = record { sound = S; short = short };
          symbols = t.1;
          writes = w.0;
          count = refl;
          room = leb-false (length t.1) (length before) fits;
          output = k;
        })

    -- of any text
    for_text : Keeps (answer_for M text (length before))
    for_text =
        cond_both (leb (length text) 1048576) (answer_at (position M text 0) (length before) (ended M text)) (Err LongText) Keeps
        (λ short. at_end (leb-true (length text) 1048576 short) (ended M text) refl)
        (λ long k. (S, leb-false (length text) 1048576 long, k))

  pub transduces : (r : Result Outcome TransduceFault) → r ≡ after_check (checked m F) (answer_for (machine_of m F) text (length before)) → after ≡ output_after r (ended (machine_of m F) text) before → Transduces m F text before after r
  unfolding M
  transduces r h = subst Keeps (sym h) (go (checked m F) refl)
    where
      go : (c : Checked) → checked m F ≡ c → Keeps (after_check c (answer_for M text (length before)))
      go (Ok x) e = for_text (sound_from_checked m L F e)
      go (Err f) e = λ k. (e, k)

-- the relation and the function agree for a table without a fault
pub agrees_if_checked : {G T : Type 0} (m : Model G T) (F : Table G T) → Lawful m → checked m F ≡ Ok tt → Agrees m F
agrees_if_checked m F L e = agrees m F L (sound_from_checked m L F e)
