-- Two machines one after the other: the second reads what the first writes.
use Rattle.std.specs.Prelude.{◌≡◌, ℕ, ◌<◌, List, length, get_or, Some, None, Option, slice_index_or}
use Rattle.machine.specs.Machine.{Machine, and_then, run, transduced_from}

-- a state of the first beside the one that the second reached
abbrev pub beside : ℕ → Option (ℕ × List ℕ) → Option ((ℕ × ℕ) × List ℕ)
beside p None = None
beside p (Some r) = Some ((p, r.0), r.1)

-- from a pair of states on a symbol: the first moves, and the second runs over what that writes
abbrev pub step_both : Machine → Machine → ℕ × ℕ → ℕ → Option ((ℕ × ℕ) × List ℕ)
step_both a b x s = and_then (a.step x.0 s) (λ r. beside r.0 (run b r.1 x.1))

-- at the end of a text: the second is given the first's final output, and ends too
abbrev pub final_both : Machine → Machine → ℕ × ℕ → Option (List ℕ)
final_both a b x = and_then (a.final x.0) (λ w. transduced_from b w x.1)

-- a move between numbers as one between the pairs that they stand for
abbrev pub renamed : List (ℕ × ℕ) → Option (ℕ × List ℕ) → Option ((ℕ × ℕ) × List ℕ)
renamed P None = None
renamed P (Some r) = Some (slice_index_or P r.0 (0, 0), r.1)

-- the states of c stand for the pairs of P by number, and c does on them what the two machines do on the pairs
pub record Composes (a b c : Machine) (P : List (ℕ × ℕ)) : Type 0 where
  pub some : 0 < length P
  pub start : get_or P 0 (0, 0) ≡ (0, 0)
  pub stays : (i : ℕ) → i < length P → (s j : ℕ) (w : List ℕ) → c.step i s ≡ Some (j, w) → j < length P
  pub step : (i : ℕ) → i < length P → (s : ℕ) → renamed P (c.step i s) ≡ step_both a b (slice_index_or P i (0, 0)) s
  pub final : (i : ℕ) → i < length P → c.final i ≡ final_both a b (slice_index_or P i (0, 0))
