use Rattle.std.proofs.Common.{length, ap, ◌∙◌, subst}
use Rattle.table.specs.Check.{checked}
use Rattle.table.proofs.Soundness.{checked_from_sound}
use Rattle.holdings.specs.Memory.{memory_of}
use Rattle.shelf_law.specs.Scratch.{scratch_of, lists_of}
use Rattle.shelf_law.specs.Placing.{Placing}
use Rattle.shelf_law.specs.Calls.{joined_at, too_large, joins}
use Rattle.shelf_law.proofs.Laws.{joined_sound}
use Rattle.joining.proofs.Joinings.{roomy, held_by, front_joined}
use Rattle.joining.proofs.place_joined.Goals as goal

pub returns-in_default : goal.returns-in_default
returns-in_default g c =
    let m = g.A.Alphabet.model in
    let M = memory_of c.args.shelf.now in
    let J = joined_at m M c.args.first c.args.second in
    let S = c.args.states.now in
    let R = c.args.rules.now in
    let O = c.args.outputs.now in
    let n = length c.args.pairs.now in
    too_large c.args.first c.args.second (lists_of (length S) (length R) (length O) n) c.requires.readable c.requires.first c.requires.second (λ limited h. c.in_default.ensures (roomy J n S R O limited h))

pub front_of-filter-requires-clause-sound : goal.front_of-filter-requires-clause-sound
front_of-filter-requires-clause-sound g c =
    let m = g.A.Alphabet.model in
    let M = memory_of c.args.shelf.now in
    let J = joined_at m M c.args.first c.args.second in
    let b = c.in-Ok.ensures in
    let is = front_joined J (length c.args.pairs.now) c.args.states.now c.args.rules.now c.args.outputs.now c.in-Ok.sizes c.compose_views.new.states c.compose_views.new.rules c.compose_views.new.outputs b in
    ap (checked m) is ∙ checked_from_sound m g.A.Alphabet.laws J (joined_sound m g.A.Alphabet.laws (scratch_of 0 0) M c.requires.readable c.args.first c.args.second c.requires.first c.requires.second b.roomy.limited)

pub returns : goal.returns
returns g c =
    let m = g.A.Alphabet.model in
    let M = memory_of c.args.shelf.now in
    let J = joined_at m M c.args.first c.args.second in
    let S = c.args.states.now in
    let R = c.args.rules.now in
    let O = c.args.outputs.now in
    let n = length c.args.pairs.now in
    let b = c.in-Ok.ensures in
    let A = memory_of c.place.new.shelf in
    let scratch = scratch_of (length c.args.steps.now) (length c.args.symbols.now) in
    let is = c.front_of-filter.ensures ∙ front_joined J n S R O c.in-Ok.sizes c.compose_views.new.states c.compose_views.new.rules c.compose_views.new.outputs b in
    joins c.args.first c.args.second (lists_of (length S) (length R) (length O) n) c.place.result A c.requires.readable c.requires.first c.requires.second b.roomy.limited (held_by J n S R O b.roomy)
    (subst (λ X. Placing m scratch M X c.place.result A) is c.place.ensures)
