-- What the filters over bytes do, symbol by symbol and so for every text.
use Rattle.std.proofs.Common.{◌≡◌, ℕ, Bool, cond, List, [], ◌∷◌, Some, None, refl, arith}
use Rattle.std.specs.List.{flat_map}
use Rattle.std.proofs.lemmas.List.{append-nil}
use Rattle.std.proofs.lemmas.Bool.Decides.{nat_tests}
use Rattle.machine.specs.Machine.{Machine, run, transduced}
use Rattle.range_laws.specs.Ranges.{ranges}
use Rattle.filter.specs.Machines.{machine_of}
use Rattle.builtin.specs.Bytes.{escape_table, lower_table, ascii_table, escaped, lowered, same, is_byte, is_printable, all_of, Maps}

-- a machine that stays in state 0 writes what it writes for each symbol, one after another
module _ (m : Machine) (p : ℕ → Bool) (f : ℕ → List ℕ) (each : (s : ℕ) → m.step 0 s ≡ cond (p s) (Some (0, f s)) None) where
  runs : (u : List ℕ) → run m u 0 ≡ cond (all_of p u) (Some (0, flat_map f u)) None
  unfolding run
  runs [] = refl
  runs (s ∷ u) = let e = each s in let ih = runs u in grind arith

  pub maps : m.final 0 ≡ Some [] → (u : List ℕ) → transduced m u ≡ cond (all_of p u) (Some (flat_map f u)) None
  maps e u = let r = runs u in let n = append-nil (flat_map f u) in grind arith

pub escape_maps : Maps escape_table is_byte escaped
unfolding machine_of
escape_maps = maps (machine_of (ranges 256) escape_table) is_byte escaped (λ s. grind (arith, nat_tests)) refl

pub lower_maps : Maps lower_table is_byte lowered
unfolding machine_of
lower_maps = maps (machine_of (ranges 256) lower_table) is_byte lowered (λ s. grind (arith, nat_tests)) refl

pub ascii_maps : Maps ascii_table is_printable same
unfolding machine_of
ascii_maps = maps (machine_of (ranges 256) ascii_table) is_printable same (λ s. grind (arith, nat_tests)) refl
