-- Abstract transducers with final outputs, and what they do to a text.
use Rattle.std.specs.Prelude.{◌≡◌, ℕ, List, [], ◌∷◌, ◌++◌, Some, None, Option}

-- A transducer by its two questions: where a state goes on a symbol and what it writes there, or none where it has no
-- move; and what a state writes at the end of a text, or none where it rejects there. It starts in state 0.
pub record Machine : Type 0 where
  pub step : ℕ → ℕ → Option (ℕ × List ℕ)
  pub final : ℕ → Option (List ℕ)

-- none, or what f makes of what is there
abbrev pub and_then : {X Y : Type 0} → Option X → (X → Option Y) → Option Y
and_then None f = None
and_then (Some x) f = f x

-- x, written before what is written next
abbrev pub prefixed : List ℕ → Option (List ℕ) → Option (List ℕ)
prefixed x None = None
prefixed x (Some y) = Some (x ++ y)

-- the same where a state is reached too
abbrev pub moved : List ℕ → Option (ℕ × List ℕ) → Option (ℕ × List ℕ)
moved x None = None
moved x (Some r) = Some (r.0, x ++ r.1)

-- the state reached from q by a text, and what is written on the way
unfoldable pub run : Machine → List ℕ → ℕ → Option (ℕ × List ℕ)
run m [] q = Some (q, [])
run m (s ∷ u) q = and_then (m.step q s) (λ r. moved r.1 (run m u r.0))

-- all that is written for a text from the state q: on the way, and at its end
abbrev pub transduced_from : Machine → List ℕ → ℕ → Option (List ℕ)
transduced_from m u q = and_then (run m u q) (λ r. prefixed r.1 (m.final r.0))

-- what the machine writes for a text, or none where it rejects it
abbrev pub transduced : Machine → List ℕ → Option (List ℕ)
transduced m u = transduced_from m u 0

-- two machines treat the text differently: one writes what the other does not
abbrev pub Distinguishes : Machine → Machine → List ℕ → Type 0
Distinguishes a b u = transduced a u ≡ transduced b u → ⊥
