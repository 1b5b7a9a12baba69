use Rattle.std.proofs.Common.{◌≡◌, ◌+◌, ◌-◌, ◌<◌, map, length, take, refl, sym, ap, ◌∙◌, subst, arith}
use Rattle.std.specs.List.{AllByRecursion}
use Rattle.std.proofs.lemmas.List.{length-take-le}
use Rattle.std.proofs.lemmas.Result.{err_from_is_err_and}
use Rattle.table.specs.Table.{table_of}
use Rattle.join_laws.proofs.Tables.{Symbols}
use Rattle.join_laws.proofs.Symbols.{finals_inside}
use Rattle.join_ways.specs.Written.{spliced}
use Rattle.join_states.proofs.Endings.{ended_none, ended_long, ended_over, ended_some}
use Rattle.table.proofs.Soundness.{sound_from_checked}
use Rattle.join_states.proofs.add_state.Goals as goal

pub returns-in_default : goal.returns-in_default
returns-in_default g c =
    let O = c.args.outputs.now in
    record { ended = ended_none g.A.Alphabet.model O.count O.items.now _ c.in_default.ensures O.fits; same = refl }

pub returns-then-count-gt-MOST_AT_ONCE : goal.returns-then-count-gt-MOST_AT_ONCE
returns-then-count-gt-MOST_AT_ONCE g c =
    let e = c.in-Some.ensures in
    record {
      ended = ended_long g.A.Alphabet.model c.args.outputs.now.count c.args.outputs.now.items.now _ (take c.in-Some.count c.final_of.new.out) e.0 (omega (arith, length-take-le c.in-Some.count c.final_of.new.out e.1, c.if-count-gt-MOST_AT_ONCE.true));
      same = refl;
    }

pub write_constants-requires : goal.write_constants-requires
write_constants-requires g c =
    let m = g.A.Alphabet.model in
    let e = c.in-Some.ensures in
    let zero : c.in-Some.count - 0 ≡ c.in-Some.count = omega arith in
    let inside = subst (Symbols m) e.0 (finals_inside m g.A.Alphabet.laws (table_of c.args.first.now.draft) (table_of c.args.second.now.draft) (sound_from_checked g.A.Alphabet.model g.A.Alphabet.laws (table_of c.args.second.now.draft) c.args.second.now.sound) c.args.pair) in
    subst (λ n. AllByRecursion (λ s. s < m.size) (take n c.final_of.new.out)) (sym zero) inside

pub returns-in_err-write_constants : goal.returns-in_err-write_constants
returns-in_err-write_constants g c =
    let m = g.A.Alphabet.model in
    let e = c.in-Some.ensures in
    let O = c.args.outputs.now in
    let zero : c.in-Some.count - 0 ≡ c.in-Some.count = omega arith in
    let over = subst (λ n. length O.items.now < O.count + length (map m.constant (take n c.final_of.new.out))) zero c.in_err-write_constants.ensures.wrote in
    let p = err_from_is_err_and c.from_residual.result c.from_residual.ensures.1 in
    record {
      ended = rw p.1 (ended_over m O.count O.items.now _ (take c.in-Some.count c.final_of.new.out) e.0 over);
      same = c.write_constants.ensures.same;
    }

pub returns : goal.returns
returns g c =
    let m = g.A.Alphabet.model in
    let e = c.in-Some.ensures in
    let O = c.args.outputs.now in
    let O₁ = c.write_constants.new.outputs in
    let out = c.final_of.new.out in
    let n = c.in-Some.count in
    let zero : n - 0 ≡ n = omega arith in
    let w = c.in_ok-write_constants.ensures.wrote in
    record {
      ended = ended_some m O.count O.items.now _ (take n out) e.0 n O₁.count O₁.items.now (length-take-le n out e.1) c.if-count-gt-MOST_AT_ONCE.false
          (w.0 ∙ ap (λ i. O.count + length (map m.constant (take i out))) zero) w.1 (w.2 ∙ ap (λ i. spliced O.count (map m.constant (take i out)) O.items.now) zero);
      same = c.write_constants.ensures.same;
    }
