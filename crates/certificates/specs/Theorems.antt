-- What is proved of the checks, as a statement that a contract names.
use Rattle.std.specs.Prelude.{◌≡◌, ℕ, ◌≤◌, true, List, Some, None}
use Rattle.machine.specs.Machine.{Machine}
use Rattle.machine.specs.Compared.{Told}
use Rattle.certificates.specs.Points.{Point}
use Rattle.certificates.specs.Certificates.{certified}
use Rattle.certificates.specs.Earliest.{differs_at}

-- the machine has no move on a number that is no symbol
abbrev pub Within : ℕ → Machine → Type 0
Within size m = (q s : ℕ) → size ≤ s → m.step q s ≡ None

pub record CertificatesHold : Type 0 where
  -- machines with a certificate are equivalent
  pub equivalent : (a b : Machine) (size : ℕ) → Within size a → Within size b → (points : List Point)
      → certified a b size points ≡ true → Told a b None
  -- a text that passes is the earliest that distinguishes
  pub earliest : (a b : Machine) (size : ℕ) → Within size a → Within size b → (t : List ℕ)
      → differs_at a b size t ≡ true → Told a b (Some t)
