use mathlib.Core.Path.{sym, ◌∙◌, ap}
use native.Mathlib.Omega.{arith}
use Rattle.alphabet.specs.Questions.{constant_of}
use Rattle.range_laws.specs.Ranges.{ranges, clamped}
use Rattle.range_laws.proofs.Questions.{constant_of_constant, constant_of_one, constant_of_shift}
use Rattle.ranges.proofs.RangesAlphabet.constant_value.Goals as goal

pub returns-in-Constant : goal.returns-in-Constant
returns-in-Constant g c =
    let n = clamped g.row.SIZE in
    sym (ap (constant_of (ranges n)) c.in-Constant.is ∙ constant_of_constant n c.in-Constant.symbol (omega arith))

pub returns-then-size-eq1 : goal.returns-then-size-eq1
returns-then-size-eq1 g c =
    let n = clamped g.row.SIZE in
    let p = rw c.in-Shift.is at c.requires.sound in
    sym (ap (constant_of (ranges n)) c.in-Shift.is ∙ constant_of_one n c.in-Shift.field-0 (omega arith) p)

pub returns-else-size-eq1 : goal.returns-else-size-eq1
returns-else-size-eq1 g c =
    let n = clamped g.row.SIZE in
    sym (ap (constant_of (ranges n)) c.in-Shift.is ∙ constant_of_shift n c.in-Shift.field-0 (omega arith))
