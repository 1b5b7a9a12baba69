use Rattle.mark_laws.proofs.Laws.{lawful}
use Rattle.mark_laws.proofs.marks_are_lawful.Goals as goal

pub returns : goal.returns
returns c = lawful
