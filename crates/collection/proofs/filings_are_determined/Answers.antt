-- A filing has one answer, and leaves one memory.
use Rattle.collection.proofs.Filings.{filing_one}
use Rattle.collection.proofs.filings_are_determined.Goals as goal

pub returns : goal.returns
returns g c = filing_one g.A.Alphabet.model
