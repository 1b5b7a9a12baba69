-- A path through the second filter: for each output term so far, where the outputs of the rule that took it stand.
use Rattle.std.specs.Prelude.{ℕ, ◌-◌, ◌≤◌, List, [], ◌∷◌, ◌++◌, length, take, drop}
use Rattle.std.specs.List.{AllByRecursion}
use Rattle.alphabet.specs.Model.{Model, SoundTerm}
use Rattle.join_laws.specs.Lines.{Line}
use Rattle.join_laws.specs.Ways.{Way, followed_by}
use Rattle.join_ways.specs.declared.write.Span.{Span}

-- the outputs in a span
abbrev pub within : {T : Type 0} → List T → Span → List T
within outputs p = take (p.to - p.from) (drop p.from outputs)

-- a span of sound terms
abbrev pub SoundSpan : {G T : Type 0} → Model G T → List T → Span → Type 0
SoundSpan m outputs p = (p.from ≤ p.to) × (p.to ≤ length outputs) × AllByRecursion (SoundTerm m) (within outputs p)

-- what is written along a path: each term followed by the outputs of the rule that took it
unfoldable pub along : {G T : Type 0} → Model G T → List T → List (List T) → List T
along m [] ws = []
along m (t ∷ ts) [] = []
along m (t ∷ ts) (w ∷ ws) = followed_by m t w ++ along m ts ws

-- a way as a line of the state k, led by the terms that were written before it; its target is the second filter's state
abbrev pub raw_line : {G T : Type 0} → ℕ → List T → Way G T ℕ → Line G T
raw_line k acc w = record { state = k; next = w.to; guard = w.guard; outputs = acc ++ w.outputs }

-- a complete way as a line of the state k
abbrev pub whole_line : {G T : Type 0} → ℕ → List T → ℕ → G → Line G T
whole_line k outputs q g = record { state = k; next = q; guard = g; outputs = outputs }
