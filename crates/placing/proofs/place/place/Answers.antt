use Rattle.std.proofs.Common.{length, Err, sym, ap, ◌∙◌, subst, arith}
use Rattle.std.proofs.lemmas.Result.{err_from_is_err_and}
use Rattle.table.specs.Table.{table_of}
use Rattle.table.proofs.Soundness.{sound_from_checked}
use Rattle.holdings.specs.Memory.{memory_of}
use Rattle.shelf_law.specs.Scratch.{scratch_of}
use Rattle.shelf_law.specs.Placing.{Placing, short_scratch, double}
use Rattle.holdings.proofs.ReadThrough.{readable_fits}
use Rattle.placing.proofs.Placements.{long_enough, placed_full, placed_held}
use Rattle.placing.proofs.place.place.Goals as goal

pub returns-in-Some : goal.returns-in-Some
returns-in-Some g c = short_scratch c.in-Some.number c.in-Some.ensures

pub first_double-requires : goal.first_double-requires
first_double-requires g c =
    let S = scratch_of (length c.args.steps.now) (length c.args.symbols.now) in
    record { enough = long_enough g.A.Alphabet.model S (memory_of c.args.shelf.now) (table_of c.args.filter.now.draft) c.in_default.ensures }

pub returns-in-Some-first_double : goal.returns-in-Some-first_double
returns-in-Some-first_double g c =
    let S = scratch_of (length c.args.steps.now) (length c.args.symbols.now) in
    double c.in-Some-first_double.number (long_enough g.A.Alphabet.model S (memory_of c.args.shelf.now) (table_of c.args.filter.now.draft) c.in_default.ensures) c.in-Some-first_double.ensures

pub append-requires : goal.append-requires
append-requires g c =
    let m = g.A.Alphabet.model in
    let sound = sound_from_checked m g.A.Alphabet.laws (table_of c.args.filter.now.draft) c.args.filter.now.sound in
    record {
      fits = readable_fits m (memory_of c.args.shelf.now) c.requires.readable;
      short = (omega (arith, sound.few_states), omega (arith, sound.few_rules), omega (arith, sound.few_outputs));
    }

pub returns-in_err-append : goal.returns-in_err-append
returns-in_err-append g c =
    let m = g.A.Alphabet.model in
    let S = scratch_of (length c.args.steps.now) (length c.args.symbols.now) in
    let M = memory_of c.args.shelf.now in
    let F = table_of c.args.filter.now.draft in
    let A = memory_of c.append.new.self in
    let p = err_from_is_err_and c.from_residual.result c.from_residual.ensures.1 in
    let placed = placed_full m S M F c.in_default.ensures c.in_default-first_double.ensures A c.append.ensures.memory _ (sym c.append.ensures.answer ∙ c.in_err-append.was) in
    subst (λ r. Placing m S M F r A) (sym (p.1 ∙ ap Err p.2)) placed

pub returns : goal.returns
returns g c =
    let m = g.A.Alphabet.model in
    let S = scratch_of (length c.args.steps.now) (length c.args.symbols.now) in
    let M = memory_of c.args.shelf.now in
    let F = table_of c.args.filter.now.draft in
    placed_held m S M F c.in_default.ensures c.in_default-first_double.ensures (memory_of c.append.new.self) c.append.ensures.memory _ (sym c.append.ensures.answer ∙ c.in_ok-append.was)
