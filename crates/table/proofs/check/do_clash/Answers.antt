use Rattle.std.proofs.Common.{arith}
use Rattle.std.proofs.lemmas.Bool.Decides.{nat_tests}
use Rattle.alphabet.proofs.Shared.{shares_least}
use Rattle.table.proofs.check.do_clash.Goals as goal

pub returns-then-earlier-later : goal.returns-then-earlier-later
returns-then-earlier-later g c =
    let m = g.A.Alphabet.model in
    let e = shares_least m g.A.Alphabet.laws c.args.earlier.guard c.args.later.guard c.requires.earlier c.least_shared.result c.least_shared.ensures in
    grind (arith, nat_tests)
