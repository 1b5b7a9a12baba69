use Rattle.std.proofs.Common.{sym, ◌∙◌}
use Rattle.marks.proofs.Table.{letter_at, mark_of_letter}
use Rattle.marks.proofs.letters.letter.Goals as goal

pub returns-then-mark-lt-SIZE : goal.returns-then-mark-lt-SIZE
returns-then-mark-lt-SIZE c =
    let rule = letter_at c.args.mark c.if-mark-lt-SIZE.true in
    record { rule = rule; back = λ b e. mark_of_letter c.args.mark b (sym rule ∙ e) }
