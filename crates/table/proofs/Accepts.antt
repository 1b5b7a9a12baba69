-- Checks that find no fault exactly where a fact holds.
use Rattle.std.proofs.Common.{◌≡◌, ℕ, ◌+◌, Bool, true, false, List, [], ◌∷◌, Ok, Err, Decides, Result, refl, arith}
use Rattle.std.specs.List.{AllByRecursion}
use Rattle.table.specs.declared.fault.TableFault.{TableFault}
use Rattle.table.specs.Results.{map_err}
use Rattle.table.specs.Check.{Checked, next, unless, each}

-- there is no fault exactly where P holds
abbrev pub Accepts : Checked → Type 0 → Type 0
Accepts o P = (o ≡ Ok tt → P) × (P → o ≡ Ok tt)

pub accepts_like : {P Q : Type 0} (o : Checked) → (P → Q) → (Q → P) → Accepts o P → Accepts o Q
accepts_like o to from a = (λ e. to (a.0 e), λ q. a.1 (from q))

-- the second check may rest on what the first accepts
pub accepts_next : {P Q : Type 0} (a b : Checked) → Accepts a P → (P → Accepts b Q) → Accepts (next a b) (P × Q)
accepts_next (Ok x) b first second = (λ e. let p = first.0 refl in (p, (second p).0 e), λ h. (second h.0).1 h.1)
accepts_next (Err f) b first second = (λ e. grind arith, λ h. let e = first.1 h.0 in grind arith)

pub accepts_unless : {P : Type 0} (b : Bool) (f : TableFault) → Decides b P → Accepts (unless b f) P
accepts_unless true f d = (λ _. d.0 refl, λ _. refl)
accepts_unless false f d = (λ e. grind arith, λ p. let e = d.1 p in grind arith)

pub accepts_map_err : {E : Type 0} (f : E → TableFault) (o : Result Unit E) → Accepts (map_err f o) (o ≡ Ok tt)
accepts_map_err f (Ok x) = (λ e. grind arith, λ e. grind arith)
accepts_map_err f (Err c) = (λ e. grind arith, λ e. grind arith)

pub accepts_each : {X : Type 0} (P : X → Type 0) (f : ℕ → X → Checked) → ((k : ℕ) (x : X) → Accepts (f k x) (P x)) → (k : ℕ) (xs : List X) → Accepts (each f k xs) (AllByRecursion P xs)
accepts_each P f one k [] = (λ _. tt, λ _. refl)
accepts_each P f one k (x ∷ xs) = accepts_next (f k x) (each f (k + 1) xs) (one k x) (λ _. accepts_each P f one (k + 1) xs)
