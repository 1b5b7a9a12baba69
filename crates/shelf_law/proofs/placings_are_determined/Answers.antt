-- A sound filter put on a shelf has one answer, and leaves one memory.
use Rattle.shelf_law.proofs.Placings.{placing_one}
use Rattle.shelf_law.proofs.placings_are_determined.Goals as goal

pub returns : goal.returns
returns g c = placing_one g.A.Alphabet.model
