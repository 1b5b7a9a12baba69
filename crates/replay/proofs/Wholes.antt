-- A whole output: what is written on the way, and the final output behind it.
use Rattle.std.proofs.Common.{◌≡◌, ℕ, ◌+◌, ◌≤◌, List, ◌++◌, length, take, drop, Some, None, Option, sym, refl, ap, ◌∙◌, subst, arith}
use Rattle.std.proofs.lemmas.List.{length-append, length-take-le, take_at}
use Rattle.machine.specs.Machine.{and_then, prefixed}
use Rattle.alphabet.specs.Model.{Model}
use Rattle.table.specs.Table.{Table}
use Rattle.filter.specs.Machines.{machine_of}
use Rattle.filter.specs.Outcomes.{put, behind, finished}
use Rattle.steps.specs.declared.step.Side.{Side}
use Rattle.replay.specs.Replays.{output_by, whole_by, wrote, Within, RoomFor}
use Rattle.replay.proofs.Outputs.{put_between}

-- what is written behind the first n symbols
take_finished : (n : ℕ) (y o : List ℕ) → n + length y ≤ length o → take (n + length y) (put n y o) ≡ take n o ++ y
take_finished n y o h =
    let few = length-take-le n o (omega arith) in
    ap (take (n + length y)) (put_between n y o h)
    ∙ take_at (take n o ++ y) (drop (n + length y) o) (n + length y) (length-append (take n o) y ∙ ap (λ k. k + length y) few)

-- a final output, if there is one, behind an output
wrote_finished : (n : ℕ) (o w : List ℕ) (f : Option (List ℕ)) → take n o ≡ w → ((y : List ℕ) → f ≡ Some y → n + length y ≤ length o)
    → (wrote (behind n f) (finished n f o) ≡ prefixed w f) × Within (behind n f) (length o)
wrote_finished n o w None e room = (refl, tt)
wrote_finished n o w (Some y) e room = (ap Some (take_finished n y o (room y refl) ∙ ap (λ t. t ++ y) e), room y refl)

module _ {G T : Type 0} (m : Model G T) (F : Table G T) (u : List ℕ) (s : ℕ) (x : Side) where
  pub whole_dead : x.state ≡ None → whole_by m F u s x ≡ None
  unfolding whole_by
  whole_dead e = ap (λ o. and_then o (λ q. prefixed (output_by m F u s x) ((machine_of m F).final q))) e

  pub whole_alive : (q : ℕ) → x.state ≡ Some q → whole_by m F u s x ≡ prefixed (output_by m F u s x) ((machine_of m F).final q)
  unfolding whole_by
  whole_alive q e = ap (λ o. and_then o (λ q. prefixed (output_by m F u s x) ((machine_of m F).final q))) e

  pub whole_finished : (q : ℕ) → x.state ≡ Some q → (n : ℕ) (o o' : List ℕ) (r : Option ℕ) → RoomFor m F x (length o)
      → n ≡ x.total → take n o ≡ output_by m F u s x → r ≡ behind n ((machine_of m F).final q) → o' ≡ finished n ((machine_of m F).final q) o
      → (wrote r o' ≡ whole_by m F u s x) × Within r (length o)
  whole_finished q alive n o o' r room e known answer output =
      let d = wrote_finished n o (output_by m F u s x) ((machine_of m F).final q) known (λ y h. omega (arith, room.at_the_end q y h)) in (
        ap (λ k. wrote k o') answer ∙ ap (λ t. wrote (behind n ((machine_of m F).final q)) t) output ∙ d.0 ∙ sym (whole_alive q alive),
        subst (λ k. Within k (length o)) (sym answer) d.1,
      )
