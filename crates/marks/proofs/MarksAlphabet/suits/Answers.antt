use Rattle.std.proofs.Common.{sym}
use Rattle.marks.proofs.Terms.{suits_all}
use Rattle.marks.proofs.MarksAlphabet.suits.Goals as goal

pub returns : goal.returns
returns c = sym (suits_all c.args._term c.args._guard)
