use Rattle.std.proofs.Common.{refl}
use Rattle.builtin.proofs.Maps.{escape_maps}
use Rattle.builtin.proofs.bytes.escape.Goals as goal

pub returns : goal.returns
returns c = record { table = refl; means = escape_maps }
