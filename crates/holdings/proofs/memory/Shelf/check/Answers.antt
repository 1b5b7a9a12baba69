use Rattle.std.proofs.Common.{◌≡◌, ◌+◌, true, sym, ap, ◌∙◌}
use Rattle.table.specs.Check.{checked}
use Rattle.table.specs.Results.{map_err}
use Rattle.answers.specs.declared.fault.Fault.TheVariants.{Unsound}
use Rattle.holdings.specs.Memory.{memory_of, fits}
use Rattle.holdings.proofs.Checks.{shelf_is, holding_unsound, holding_sound}
use Rattle.holdings.proofs.memory.Shelf.check.Goals as goal

pub returns-in-Err : goal.returns-in-Err
returns-in-Err g c =
    let m = g.A.Alphabet.model in
    let M = memory_of c.args.self.now in
    let i = c.loop-i.i in
    let ok : fits M ≡ true = sym c.if-not-fits.ensures in
    let table = sym (c.in-Err.ensures.first ∙ ap (checked m) c.view-view.ensures) in
    sym (holding_unsound m M ok i c.loop-i-test.true _ (ap (map_err (Unsound (i + 1))) table)) ∙ c.loop-i.invariant ∙ shelf_is m M ok

pub loop-i-preserved : goal.loop-i-preserved
loop-i-preserved g c =
    let m = g.A.Alphabet.model in
    let M = memory_of c.args.self.now in
    let i = c.loop-i.i in
    let ok : fits M ≡ true = sym c.if-not-fits.ensures in
    let table = sym (c.in_default.ensures.first ∙ ap (checked m) c.view-view.ensures) in
    sym (holding_sound m M ok i c.loop-i-test.true (ap (map_err (Unsound (i + 1))) table)) ∙ c.loop-i.invariant
