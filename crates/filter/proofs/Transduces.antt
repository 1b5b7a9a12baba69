-- From the walk and the final output to the answer of transducing, over any machine.
use Rattle.std.proofs.Common.{◌≡◌, ℕ, ◌+◌, ◌<◌, ◌≤◌, List, ◌++◌, length, drop, Some, None, Ok, Err, Option, sym, refl, ap, ◌∙◌, arith}
use Rattle.std.proofs.lemmas.List.{length-append}
use Rattle.std.proofs.lemmas.Bool.{le-leb, lt-leb}
use Rattle.machine.specs.Machine.{Machine, run}
use Rattle.machine.specs.Walk.{position, written}
use Rattle.machine.proofs.Walks.{run_through}
use Rattle.filter.specs.declared.outcome.Outcome.TheVariants.{Written, Rejected}
use Rattle.filter.specs.declared.outcome.TransduceFault.TheVariants.{ShortOutput}
use Rattle.filter.specs.Outcomes.{put, end_of, walked, behind, ended, answer_at, answer_for, output_after}
use Rattle.filter.proofs.Puts.{put_append, put_front}

-- what a place behind a final output tells of it
pub behind_none : (n : ℕ) (o : Option (List ℕ)) → behind n o ≡ None → o ≡ None
behind_none n None e = refl
behind_none n (Some y) e = grind arith

pub behind_some : (n k : ℕ) (o : Option (List ℕ)) → behind n o ≡ Some k → (y : List ℕ) × (o ≡ Some y) × (n + length y ≡ k)
behind_some n k None e = grind arith
behind_some n k (Some y) e = (y, refl, cc)

module _ (m : Machine) (u : List ℕ) (short : length u ≤ 1048576) where
  -- the answer to a text that is not too long
  pub answer_at_lem : (room : ℕ) (e : Option (ℕ × List ℕ)) → ended m u ≡ e → answer_for m u room ≡ answer_at (position m u 0) room e
  answer_at_lem room e h = rw (le-leb (length u) 1048576 short, h)

  walk_tells : (p n : ℕ) (o : Option (ℕ × List ℕ)) → run m u 0 ≡ o → end_of (position m u 0) o ≡ Ok (p, n) → (w : List ℕ) × (run m u 0 ≡ Some (p, w)) × (length w ≡ n)
  walk_tells p n None e h = grind arith
  walk_tells p n (Some r) e h =
      let pair : ◌≡◌ {A = ℕ × ℕ} (r.0, length r.1) (p, n) = cc in
      (r.1, e ∙ ap (λ q. Some (q, r.1)) (ap (λ (x : ℕ × ℕ). x.0) pair), ap (λ (x : ℕ × ℕ). x.1) pair)

  module _ (p n : ℕ) (through : walked m u 0 ≡ Ok (p, n)) where
    pub word : (w : List ℕ) × (run m u 0 ≡ Some (p, w)) × (length w ≡ n)
    word = walk_tells p n (run m u 0) refl through

    -- it does, and the state that it reaches rejects
    pub answer_rejected : (room : ℕ) → m.final p ≡ None → answer_for m u room ≡ Ok (Rejected (length u))
    answer_rejected room e =
        let r = word.1 in
        answer_at_lem room None (rw (r, e)) ∙ ap (λ k. Ok (Rejected k)) (run_through m u 0 (p, word.0) r).0

    module _ (y : List ℕ) (e : m.final p ≡ Some y) where
      ends : ended m u ≡ Some (p, word.0 ++ y)
      ends = let r = word.1 in rw (r, e)

      long : length (word.0 ++ y) ≡ n + length y
      long = length-append word.0 y ∙ ap (λ k. k + length y) word.2

      -- or accepts, and the output is too short, or has room
      pub answer_short : (room : ℕ) → room < n + length y → answer_for m u room ≡ Err (ShortOutput (n + length y))
      answer_short room h = answer_at_lem room _ ends ∙ rw (long, lt-leb (n + length y) room h)

      pub answer_written : (room : ℕ) → n + length y ≤ room → answer_for m u room ≡ Ok (Written p (n + length y))
      answer_written room h = answer_at_lem room _ ends ∙ rw (long, le-leb (n + length y) room h)

      -- then it begins with all that was written
      pub output_written : (out : List ℕ) → n + length y ≤ length out → put n y (put 0 (written m u 0) out) ≡ output_after (Ok (Written p (n + length y))) (ended m u) out
      output_written out h =
          let w = word.0 in
          let place : 0 + length w ≡ n = omega (arith, word.2) in
          ap (λ v. put n y (put 0 v out)) (run_through m u 0 (p, w) word.1).1
          ∙ ap (λ k. put k y (put 0 w out)) (sym place)
          ∙ sym (put_append 0 w y out)
          ∙ put_front (w ++ y) out (omega (arith, long))
          ∙ ap (λ k. (w ++ y) ++ drop k out) long
          ∙ ap (λ o. output_after (Ok (Written p (n + length y))) o out) (sym ends)
