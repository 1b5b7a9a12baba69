use Rattle.std.proofs.Common.{◌≡◌, ◌<◌, ◌++◌, length, drop}
use Rattle.steps.specs.Steps.{text}
use Rattle.steps.proofs.text.fill_text.Given as goal

abbrev pub invariant-loop-left : goal.invariant-loop-left
invariant-loop-left l =
    (l.at < length l.steps)
    × (l.left ≡ length (text l.steps l.at))
    × (text l.steps l.step ++ drop l.count l.initial.witness ≡ text l.steps l.at ++ drop l.left l.witness)
