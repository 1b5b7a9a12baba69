use Rattle.marks.proofs.Sets.{bit_read}
use Rattle.marks.proofs.MarksAlphabet.holds.Goals as goal

pub returns-then-symbol-lt-SIZE : goal.returns-then-symbol-lt-SIZE
returns-then-symbol-lt-SIZE c = bit_read c.args.guard c.args.symbol c.if-symbol-lt-SIZE.true
