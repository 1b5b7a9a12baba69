use Rattle.std.proofs.Common.{refl}
use Rattle.builtin.proofs.Maps.{ascii_maps}
use Rattle.builtin.proofs.bytes.ascii.Goals as goal

pub returns : goal.returns
returns c = record { table = refl; means = ascii_maps }
