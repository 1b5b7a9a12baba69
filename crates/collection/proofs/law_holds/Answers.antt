-- The law of the collection holds of every history.
use Rattle.collection.proofs.Laws.{law_holds_lem}
use Rattle.collection.proofs.law_holds.Goals as goal

pub returns : goal.returns
returns g c = law_holds_lem g.A.Alphabet.model g.A.Alphabet.laws
