use Rattle.mark_laws.proofs.Sets.{canonical, constant_narrows}
use Rattle.mark_laws.proofs.sets_are_canonical.Goals as goal

pub returns : goal.returns
returns c = record { canonical = canonical; constant = constant_narrows }
