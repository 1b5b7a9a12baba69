use Rattle.std.proofs.Common.{◌≡◌, ◌-◌, min, [], ◌∷◌, ◌++◌, length, ap, ◌∙◌, arith}
use Rattle.std.proofs.lemmas.List.{length-take-le}
use Rattle.std.proofs.lemmas.Result.{err_from_is_err_and}
use Rattle.queue.specs.Held.{entries, room}
use Rattle.table.specs.Table.{table_of}
use Rattle.join_laws.specs.Joined.{joined}
use Rattle.join_laws.proofs.Joining.{joins}
use Rattle.join_pairs.proofs.Meetings.{number_refused}
use Rattle.join.proofs.Fillings.{joined_some, answers_from_fills}
use Rattle.table.proofs.Soundness.{sound_from_checked}
use Rattle.join.proofs.join.Goals as goal

pub returns-then-most-eq0 : goal.returns-then-most-eq0
returns-then-most-eq0 g c =
    let m = g.A.Alphabet.model in
    let law = g.A.Alphabet.laws in
    let F = table_of c.args.first.now.draft in
    let H = table_of c.args.second.now.draft in
    let some = joined_some m law F H (sound_from_checked g.A.Alphabet.model g.A.Alphabet.laws (table_of c.args.first.now.draft) c.args.first.now.sound) (sound_from_checked g.A.Alphabet.model g.A.Alphabet.laws (table_of c.args.second.now.draft) c.args.second.now.sound) in
    record {
      joins = λ r. omega (arith, some, r.pairs_fit, r.states_fit, c.min.ensures, c.min-most.ensures, c.if-most-eq0.true);
      composes = joins m law F H (sound_from_checked g.A.Alphabet.model g.A.Alphabet.laws (table_of c.args.first.now.draft) c.args.first.now.sound) (sound_from_checked g.A.Alphabet.model g.A.Alphabet.laws (table_of c.args.second.now.draft) c.args.second.now.sound);
    }

pub returns-in_err-push : goal.returns-in_err-push
returns-in_err-push g c =
    let m = g.A.Alphabet.model in
    let law = g.A.Alphabet.laws in
    let F = table_of c.args.first.now.draft in
    let H = table_of c.args.second.now.draft in
    let q = c.new-queue.result in
    let top : room q ≡ c.min-most.result - 0 = c.new-queue.ensures.room ∙ length-take-le (c.min-most.result - 0) c.args.pairs.now (omega (arith, c.min.ensures, c.min-most.ensures)) in
    let full = number_refused (length (entries q)) (room q) _ _ c.in_err-push.ensures.answer in
    let p = err_from_is_err_and c.from_residual.result c.from_residual.ensures.1 in
    record {
      joins = rw p.1 (λ r. omega (arith, full, top, ap length c.new-queue.ensures.entries, c.if-most-eq0.false));
      composes = joins m law F H (sound_from_checked g.A.Alphabet.model g.A.Alphabet.laws (table_of c.args.first.now.draft) c.args.first.now.sound) (sound_from_checked g.A.Alphabet.model g.A.Alphabet.laws (table_of c.args.second.now.draft) c.args.second.now.sound);
    }

pub fill-requires : goal.fill-requires
fill-requires g c =
    let q = c.new-queue.result in
    let top : room q ≡ c.min-most.result - 0 = c.new-queue.ensures.room ∙ length-take-le (c.min-most.result - 0) c.args.pairs.now (omega (arith, c.min.ensures, c.min-most.ensures)) in
    let e = c.in_ok-push.ensures in
    record {
      start = e.entries ∙ ap (λ l. l ++ (0, 0) ∷ []) c.new-queue.ensures.entries;
      waits = e.taken ∙ c.new-queue.ensures.taken;
      fits = omega (arith, e.room, top, c.if-most-eq0.false);
      few = omega (arith, e.room, top, c.min-most.ensures);
      states = omega (arith, e.room, top, c.min.ensures, c.min-most.ensures);
      path = omega arith;
    }

pub returns : goal.returns
returns g c =
    let m = g.A.Alphabet.model in
    let F = table_of c.args.first.now.draft in
    let H = table_of c.args.second.now.draft in
    let q = c.new-queue.result in
    let top : room q ≡ c.min-most.result - 0 = c.new-queue.ensures.room ∙ length-take-le (c.min-most.result - 0) c.args.pairs.now (omega (arith, c.min.ensures, c.min-most.ensures)) in
    let e = c.in_ok-push.ensures in
    let S = c.args.states.now in
    let R = c.args.rules.now in
    let O = c.args.outputs.now in
    let k = c.min-most_rules.result - 0 in
    let l = c.min-most_outputs.result - 0 in
    let low : room c.push.new.self ≡ min (min (length S) (length c.args.pairs.now)) 64 = omega (arith, e.room, top, c.min.ensures, c.min-most.ensures) in
    record {
      joins = answers_from_fills (joined m F H) (length c.args.pairs.now) S R O (room c.push.new.self) k l low (omega (arith, c.min-most_rules.ensures)) (omega (arith, c.min-most_outputs.ensures))
          c.fill.new.states c.fill.new.rules c.fill.new.outputs c.fill.result c.fill.ensures.fills;
      composes = c.fill.ensures.composes;
    }
