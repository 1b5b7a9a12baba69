use Rattle.range_laws.proofs.Laws.{lawful}
use Rattle.range_laws.proofs.ranges_are_lawful.Goals as goal

pub returns : goal.returns
returns c = lawful c.args.size
