use Rattle.std.proofs.Common.{◌≡◌, ◌+◌, ◌-◌, ◌*◌, refl, ◌∙◌, arith}
use Rattle.reader.proofs.Stands.{counts_are}
use Rattle.reader.proofs.places.counts_at.Goals as goal

pub returns : goal.returns
returns c =
    let i = c.args.i in
    let six : ((2 + i * 6) + 6) - (2 + i * 6) ≡ 6 = omega arith in
    c.read.ensures ∙ counts_are c.args.file.now i (2 + i * 6) _ c.requires.within refl six
