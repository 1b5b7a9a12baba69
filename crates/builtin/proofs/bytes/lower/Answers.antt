use Rattle.std.proofs.Common.{refl}
use Rattle.builtin.proofs.Maps.{lower_maps}
use Rattle.builtin.proofs.bytes.lower.Goals as goal

pub returns : goal.returns
returns c = record { table = refl; means = lower_maps }
