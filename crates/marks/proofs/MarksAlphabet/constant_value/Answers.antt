use Rattle.marks.proofs.Terms.{constant_of_constant, constant_of_turn}
use Rattle.marks.proofs.MarksAlphabet.constant_value.Goals as goal

pub returns-in-Constant : goal.returns-in-Constant
returns-in-Constant c = constant_of_constant c.args.term c.in-Constant.mark c.in-Constant.is

pub returns-in-Turn : goal.returns-in-Turn
returns-in-Turn c =
    constant_of_turn c.args.term c.in-Turn.factor c.in-Turn.offset c.in-Turn.is c.requires.sound
