-- The ways through the second of two filters, along the output terms of a rule of the first.
use Rattle.std.specs.Prelude.{ℕ, Bool, cond, List, [], ◌∷◌, ◌++◌, map, Some, Option, ◌==◌}
use Rattle.std.specs.Option.{option_to_list}
use Rattle.machine.specs.Machine.{and_then}
use Rattle.alphabet.specs.Model.{Model}
use Rattle.filter.specs.Machines.{values_of}
use Rattle.join_laws.specs.Lists.{first, gathered, on_some}
use Rattle.join_laws.specs.Lines.{Line}

-- a way: the symbols on which it is gone, where it ends, and the terms that it writes
pub record Way (G T S : Type 0) : Type 0 where
  pub guard : G
  pub to : S
  pub outputs : List T

module _ {G T : Type 0} (m : Model G T) where
  -- t followed by each of the terms; two that are nowhere both defined give none, which sound filters never meet
  abbrev pub followed_by : T → List T → List T
  followed_by t [] = []
  followed_by t (u ∷ us) = option_to_list (m.followed t u) ++ followed_by t us

  -- a way on which t was taken first, by a line with these outputs
  abbrev pub fronted : T → List T → Way G T ℕ → Way G T ℕ
  fronted t us w = record { guard = w.guard; to = w.to; outputs = followed_by t us ++ w.outputs }

  -- all ways from the state q by the lines, on the values of the terms at the symbols of the guard: each term narrows the
  -- guard by a line of the present state, and a narrowing that leaves no symbol ends the way
  unfoldable pub ways : List (Line G T) → List T → ℕ → G → List (Way G T ℕ)
  ways lines [] q g = record { guard = g; to = q; outputs = [] } ∷ []
  ways lines (t ∷ ts) q g =
      gathered (λ l. cond (l.state == q)
      (on_some (m.narrowed g t l.guard) (λ h. map (fronted t l.outputs) (ways lines ts l.next h))) []) lines

  abbrev pub hits : {S : Type 0} → ℕ → Way G T S → Bool
  hits s w = m.holds w.guard s

  abbrev pub takes : {S : Type 0} → ℕ → Way G T S → Option (S × List ℕ)
  takes s w = Some (w.to, values_of m w.outputs s)

  -- where the first way that holds s leads, and what it writes there
  abbrev pub taken : {S : Type 0} → List (Way G T S) → ℕ → Option (S × List ℕ)
  taken ws s = and_then (first (hits s) ws) (takes s)
