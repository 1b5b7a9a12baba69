use Rattle.std.proofs.Common.{[], length, vec_items, sym, refl, arith}
use Rattle.holdings.specs.Memory.{memory_of}
use Rattle.holdings.proofs.Parts.{fitting}
use Rattle.shelf_law.specs.Scratch.{scratch_of}
use Rattle.shelf_law.proofs.Laws.{law_holds_lem}
use Rattle.holdings.proofs.ReadThrough.{readable_fits}
use Rattle.shelving.proofs.Separating.{separable_at}
use Rattle.shelving.proofs.Shelvings.{Led, run_led, led_separable}
use Rattle.shelving.proofs.shelve.shelve_on.Goals as goal

pub tell_pairs-requires : goal.tell_pairs-requires
tell_pairs-requires g c =
    let m = g.A.Alphabet.model in
    let laws = g.A.Alphabet.laws in
    let S = scratch_of (length c.args.slots.now) (length c.args.scratch.now) in
    let M = memory_of c.args.shelf.now in
    let A = memory_of c.file_bodies.new.shelf in
    let start : Led m S M = record { history = []; reached = c.requires.begins; paired = λ i j less within. absurd (omega (arith, c.requires.empty)) } in
    let led = run_led m S laws (memory_of c.args.bodies.now) M start c.args.bodies.now.head.holdings (vec_items c.in_ok-verdicts.verdicts) A c.in_ok-verdicts.ensures in
    let L = law_holds_lem m laws led.history A led.reached in
    record {
      separable = separable_at m A _ _ _ (sym c.file_bodies.auto.steps) (sym c.file_bodies.auto.symbols) refl (led_separable m S laws A led (length c.args.witness.now) c.requires.witness);
      few = (fitting A (readable_fits m A L.readable)).few;
    }

pub returns : goal.returns
returns g c =
    let m = g.A.Alphabet.model in
    let laws = g.A.Alphabet.laws in
    let S = scratch_of (length c.args.slots.now) (length c.args.scratch.now) in
    let M = memory_of c.args.shelf.now in
    let A = memory_of c.file_bodies.new.shelf in
    let start : Led m S M = record { history = []; reached = c.requires.begins; paired = λ i j less within. absurd (omega (arith, c.requires.empty)) } in
    let led = run_led m S laws (memory_of c.args.bodies.now) M start c.args.bodies.now.head.holdings (vec_items c.in_ok-verdicts.verdicts) A c.in_ok-verdicts.ensures in
    record {
      collection = A;
      run = c.in_ok-verdicts.ensures;
      history = led.history;
      reached = led.reached;
      law = law_holds_lem m laws led.history A led.reached;
      told = c.in_ok-pairs.ensures;
    }
