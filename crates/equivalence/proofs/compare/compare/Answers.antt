use Rattle.std.proofs.Common.{◌≡◌, ℕ, ◌<◌, List, length, set, sym, ap, ◌∙◌, subst, arith}
use Rattle.queue.specs.Held.{entries}
use Rattle.table.specs.Table.{table_of}
use Rattle.table.proofs.Soundness.{sound_from_checked}
use Rattle.steps.specs.declared.step.Step.{Step}
use Rattle.steps.specs.Places.{steps_needed_lem}
use Rattle.judging.specs.Kept.{Turned}
use Rattle.judging.specs.Frames.{room_of}
use Rattle.equivalence.specs.Answers.{Early}
use Rattle.equivalence.proofs.Deciding.{decided}
use Rattle.equivalence.proofs.Starting.{cells_fit, turned_start}
use Rattle.equivalence.proofs.compare.compare.Goals as goal

pub search-requires : goal.search-requires
search-requires g c =
    let m = g.A.Alphabet.model in
    let P = c.new-pair.result in
    let F = table_of P.left.now.draft in
    let H = table_of P.right.now.draft in
    let f = P.frame in
    let B = P.framed in
    let S = sound_from_checked m g.A.Alphabet.laws F P.left.now.sound in
    let R = sound_from_checked m g.A.Alphabet.laws H P.right.now.sound in
    let fit = cells_fit (steps_needed_lem f.left f.right) f.width f.room B.low B.room in
    let size : steps_needed_lem f.left f.right ≡ steps_needed_lem (length F.states) (length H.states) = ap (λ p. steps_needed_lem p f.right) B.left ∙ ap (steps_needed_lem (length F.states)) B.right in
    let C = c.split_at_mut-cells.result.0.now in
    let front = c.split_at_mut-cells.ensures.front_len in
    let some : 0 < length C = omega (arith, front) in
    let first = turned_start m F H f.left f.right f.width C (omega (arith, B.left, S.some_state)) (omega (arith, B.right, R.some_state)) some in
    let entries-are = subst (λ (l : List Step). Turned m F H f.left f.right f.width l (set C 0 0) 0) (sym c.start.ensures.entries) first in
    let cells_are = subst (λ (b : List ℕ). Turned m F H f.left f.right f.width (entries c.start.new.queue) b 0) (sym c.start.ensures.cells) entries-are in
    record {
      slots = omega (arith, c.start.ensures.slots, c.room.ensures, c.steps.ensures, c.if-room-steps.false, size);
      cells = omega (arith, c.start.auto.cells, front, fit);
      room = omega (arith, c.split_at_mut-cells.ensures.back_len, c.if-symbols.false, c.symbols.ensures);
      turned = subst (λ n. Turned m F H f.left f.right f.width (entries c.start.new.queue) c.start.new.cells n) (sym (c.start.ensures.taken ∙ c.requires.taken)) cells_are;
    }

pub returns : goal.returns
returns g c =
    let m = g.A.Alphabet.model in
    let P = c.new-pair.result in
    let F = table_of P.left.now.draft in
    let H = table_of P.right.now.draft in
    let f = P.frame in
    let B = P.framed in
    let S = sound_from_checked m g.A.Alphabet.laws F P.left.now.sound in
    let R = sound_from_checked m g.A.Alphabet.laws H P.right.now.sound in
    let size : steps_needed_lem f.left f.right ≡ steps_needed_lem (length F.states) (length H.states) = ap (λ p. steps_needed_lem p f.right) B.left ∙ ap (steps_needed_lem (length F.states)) B.right in
    let room : f.room ≡ room_of F H = rw (c.new-pair.ensures.left, c.new-pair.ensures.right) c.new-pair.ensures.room in
    rw (← c.new-pair.ensures.left, ← c.new-pair.ensures.right)
    (record {
      answer = (
        omega (arith, c.room.ensures, c.steps.ensures, c.if-room-steps.false),
        omega (arith, c.if-symbols.false, c.symbols.ensures, room),
        c.search.ensures.told,
        subst (λ n. Early n (entries c.search.new.queue) c.search.result) size c.search.ensures.early,
      );
      decides = decided m F H g.A.Alphabet.laws S R _ c.search.ensures.told;
    })
