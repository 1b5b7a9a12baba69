use Rattle.std.proofs.Common.{◌≡◌, ◌+◌, ◌<◌, length}
use Rattle.steps.specs.Steps.{text}
use Rattle.steps.proofs.text.text_length.Given as goal

abbrev pub invariant-loop-at : goal.invariant-loop-at
invariant-loop-at l = (l.at < length l.steps) × (l.count + length (text l.steps l.at) ≡ length (text l.steps l.step))

abbrev pub decreases-loop-at : goal.decreases-loop-at
decreases-loop-at l = l.at
