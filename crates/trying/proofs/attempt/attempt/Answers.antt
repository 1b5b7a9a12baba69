use Rattle.std.proofs.Common.{ℕ, ◌+◌, ◌*◌, ◌<◌, ◌≤◌, List, length, set, Some, None, sym, refl, ap, ◌∙◌, subst, arith, rules}
use Rattle.queue.specs.Held.{entries, room}
use Rattle.table.specs.Table.{table_of}
use Rattle.steps.specs.declared.step.Step.{Step}
use Rattle.steps.specs.Steps.{at}
use Rattle.steps.specs.Places.{steps_needed_lem, place_of}
use Rattle.steps.proofs.Placing.{product_most, place_room}
use Rattle.replay.specs.Replays.{Tracks}
use Rattle.judging.specs.Kept.{Going, Extends, Judged}
use Rattle.trying.proofs.Tries.{number_given, number_refused, going_within, covered_step, dead_step, place_within, slot_left, made_step, step_stays}
use Rattle.trying.proofs.attempt.attempt.Goals as goal

pub extension-next-requires : goal.extension-next-requires
extension-next-requires g c =
    let m = g.A.Alphabet.model in
    let F = table_of c.args.pair.now.left.now.draft in
    let H = table_of c.args.pair.now.right.now.draft in
    let p = c.args.pair.now.frame.left in
    let q = c.args.pair.now.frame.right in
    let w = c.args.pair.now.frame.width in
    let L = entries c.args.queue.now in
    let C = c.args.cells.now in
    let D = c.requires.going in
    let e = sym c.entries.ensures in
    let k = c.args.number in
    let h = going_within m F H p q w L C k c.args.symbol D in
    record {
      tracks = subst (λ (l : List Step). Tracks m F H l) e D.kept.tracks;
      within = subst (λ (l : List Step). k < length l) e h;
      few = subst (λ (l : List Step). length l ≤ steps_needed_lem p q) e (place_room p q L C D.kept.placed);
      lefts = subst (λ (l : List Step). (at l k).left.total ≤ k * w) e (D.kept.lefts k h);
      rights = subst (λ (l : List Step). (at l k).right.total ≤ k * w) e (D.kept.rights k h);
    }

pub returns-then-both_dead : goal.returns-then-both_dead
returns-then-both_dead g c =
    let m = g.A.Alphabet.model in
    let F = table_of c.args.pair.now.left.now.draft in
    let H = table_of c.args.pair.now.right.now.draft in
    let p = c.args.pair.now.frame.left in
    let q = c.args.pair.now.frame.right in
    let w = c.args.pair.now.frame.width in
    let L = entries c.args.queue.now in
    let C = c.args.cells.now in
    let D = c.requires.going in
    let x = c.extension-next.result in
    let E = subst (λ (l : List Step). Extends m F H p q w l x) c.entries.ensures c.extension-next.ensures.extends in
    record {
      going = dead_step m F H p q w L C c.args.number c.args.symbol D x c.extension-next.ensures.parent c.extension-next.ensures.symbol E (sym c.both_dead.ensures ∙ c.if-both_dead.true);
      step = refl;
      taken = refl;
      slots = refl;
    }

pub returns-in_default : goal.returns-in_default
returns-in_default g c =
    let m = g.A.Alphabet.model in
    let F = table_of c.args.pair.now.left.now.draft in
    let H = table_of c.args.pair.now.right.now.draft in
    let p = c.args.pair.now.frame.left in
    let q = c.args.pair.now.frame.right in
    let w = c.args.pair.now.frame.width in
    let L = entries c.args.queue.now in
    let C = c.args.cells.now in
    let D = c.requires.going in
    let x = c.extension-next.result in
    let E = subst (λ (l : List Step). Extends m F H p q w l x) c.entries.ensures c.extension-next.ensures.extends in
    let J = subst (λ (l : List Step). Judged m F H p q w l x None) c.entries-2.ensures c.in_default.ensures in
    record { going = covered_step m F H p q w L C c.args.number c.args.symbol D x c.extension-next.ensures.parent c.extension-next.ensures.symbol E J; step = refl; taken = refl; slots = refl }

pub overflow_cast-cells : goal.overflow_cast-cells
overflow_cast-cells g c =
    let m = g.A.Alphabet.model in
    let F = table_of c.args.pair.now.left.now.draft in
    let H = table_of c.args.pair.now.right.now.draft in
    let p = c.args.pair.now.frame.left in
    let q = c.args.pair.now.frame.right in
    let w = c.args.pair.now.frame.width in
    let L = entries c.args.queue.now in
    let C = c.args.cells.now in
    let D = c.requires.going in
    let x = c.extension-next.result in
    let E = subst (λ (l : List Step). Extends m F H p q w l x) c.entries.ensures c.extension-next.ensures.extends in
    let J = subst (λ (l : List Step). Judged m F H p q w l x (Some c.in-Some.visit)) c.entries-2.ensures c.in-Some.ensures in
    let h = slot_left m F H p q w L C c.args.number c.args.symbol D x c.extension-next.ensures.parent c.extension-next.ensures.symbol E c.in-Some.visit J c.requires.cells in
    let n = number_given (length L) (room c.args.queue.now) c.in-Ok.made _ (omega (arith, c.requires.slots)) c.in-Ok.ensures.answer in
    omega (arith, product_most p q c.args.pair.now.framed.few_left c.args.pair.now.framed.few_right)

pub offset_bounds-cells-place : goal.offset_bounds-cells-place
offset_bounds-cells-place g c =
    let m = g.A.Alphabet.model in
    let F = table_of c.args.pair.now.left.now.draft in
    let H = table_of c.args.pair.now.right.now.draft in
    let p = c.args.pair.now.frame.left in
    let q = c.args.pair.now.frame.right in
    let w = c.args.pair.now.frame.width in
    let L = entries c.args.queue.now in
    let C = c.args.cells.now in
    let D = c.requires.going in
    let x = c.extension-next.result in
    let E = subst (λ (l : List Step). Extends m F H p q w l x) c.entries.ensures c.extension-next.ensures.extends in
    let J = subst (λ (l : List Step). Judged m F H p q w l x (Some c.in-Some.visit)) c.entries-2.ensures c.in-Some.ensures in
    let h = place_within m F H p q w L C c.args.number c.args.symbol D x c.extension-next.ensures.parent c.extension-next.ensures.symbol E c.in-Some.visit J c.requires.cells in
    let k : c.place_of-place.result < length C = omega (arith, c.place_of-place.ensures) in search rules

pub bounds-cells-place : goal.bounds-cells-place
bounds-cells-place g c =
    let m = g.A.Alphabet.model in
    let F = table_of c.args.pair.now.left.now.draft in
    let H = table_of c.args.pair.now.right.now.draft in
    let p = c.args.pair.now.frame.left in
    let q = c.args.pair.now.frame.right in
    let w = c.args.pair.now.frame.width in
    let L = entries c.args.queue.now in
    let C = c.args.cells.now in
    let D = c.requires.going in
    let x = c.extension-next.result in
    let E = subst (λ (l : List Step). Extends m F H p q w l x) c.entries.ensures c.extension-next.ensures.extends in
    let J = subst (λ (l : List Step). Judged m F H p q w l x (Some c.in-Some.visit)) c.entries-2.ensures c.in-Some.ensures in
    let h = place_within m F H p q w L C c.args.number c.args.symbol D x c.extension-next.ensures.parent c.extension-next.ensures.symbol E c.in-Some.visit J c.requires.cells in
    let k : c.place_of-place.result < length C = omega (arith, c.place_of-place.ensures) in search rules

pub returns-in-Ok : goal.returns-in-Ok
returns-in-Ok g c =
    let m = g.A.Alphabet.model in
    let F = table_of c.args.pair.now.left.now.draft in
    let H = table_of c.args.pair.now.right.now.draft in
    let p = c.args.pair.now.frame.left in
    let q = c.args.pair.now.frame.right in
    let w = c.args.pair.now.frame.width in
    let L = entries c.args.queue.now in
    let C = c.args.cells.now in
    let D = c.requires.going in
    let x = c.extension-next.result in
    let E = subst (λ (l : List Step). Extends m F H p q w l x) c.entries.ensures c.extension-next.ensures.extends in
    let J = subst (λ (l : List Step). Judged m F H p q w l x (Some c.in-Some.visit)) c.entries-2.ensures c.in-Some.ensures in
    let h = slot_left m F H p q w L C c.args.number c.args.symbol D x c.extension-next.ensures.parent c.extension-next.ensures.symbol E c.in-Some.visit J c.requires.cells in
    let n = number_given (length L) (room c.args.queue.now) c.in-Ok.made _ (omega (arith, c.requires.slots)) c.in-Ok.ensures.answer in
    let e = sym c.in-Ok.ensures.entries in
    let r = c.in-Ok.ensures in
    let made = made_step m F H p q w L C c.args.number c.args.symbol D x c.extension-next.ensures.parent c.extension-next.ensures.symbol E c.in-Some.visit J c.requires.cells in
    let cells = ap (λ i. set C i (length L)) (sym c.place_of-place.ensures) ∙ ap (set C c.place_of-place.result) (sym n) in
    record {
      going = subst (λ (b : List ℕ). Going m F H p q w (entries c.push.new.self) b c.args.number (c.args.symbol + 1)) cells (subst (λ (l : List Step). Going m F H p q w l (set C (place_of p q x.left.state x.right.state c.in-Some.visit) (length L)) c.args.number (c.args.symbol + 1)) e made);
      step = ap (λ (l : List Step). at l c.args.number) (sym e) ∙ step_stays m F H p q w L C c.args.number c.args.symbol D x c.extension-next.ensures.parent c.extension-next.ensures.symbol E c.in-Some.visit J c.requires.cells;
      taken = r.taken;
      slots = r.room;
    }

pub returns-in_default-push : goal.returns-in_default-push
returns-in_default-push g c =
    let m = g.A.Alphabet.model in
    let F = table_of c.args.pair.now.left.now.draft in
    let H = table_of c.args.pair.now.right.now.draft in
    let p = c.args.pair.now.frame.left in
    let q = c.args.pair.now.frame.right in
    let w = c.args.pair.now.frame.width in
    let L = entries c.args.queue.now in
    let C = c.args.cells.now in
    let D = c.requires.going in
    let x = c.extension-next.result in
    let E = subst (λ (l : List Step). Extends m F H p q w l x) c.entries.ensures c.extension-next.ensures.extends in
    let J = subst (λ (l : List Step). Judged m F H p q w l x (Some c.in-Some.visit)) c.entries-2.ensures c.in-Some.ensures in
    let h = slot_left m F H p q w L C c.args.number c.args.symbol D x c.extension-next.ensures.parent c.extension-next.ensures.symbol E c.in-Some.visit J c.requires.cells in
    absurd (number_refused (length L) (room c.args.queue.now) c.in_default-push.field-0 _ (omega (arith, c.requires.slots)) c.in_default-push.ensures.answer)
