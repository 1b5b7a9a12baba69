-- What the least shared symbol of two guards says of their sharing one.
use Rattle.std.proofs.Common.{◌≡◌, ℕ, true, not, is_some, Some, None, Option, arith}
use Rattle.alphabet.specs.Model.{Model, SoundGuard}
use Rattle.alphabet.specs.Laws.{Lawful}
use Rattle.alphabet.specs.Questions.{LeastFrom, both, shares}
use Rattle.alphabet.proofs.Bounded.{decides_every, every_fails}

-- two guards share a symbol exactly where there is a least one
pub shares_least : {G T : Type 0} (m : Model G T) → Lawful m → (g h : G) → SoundGuard m g → (r : Option ℕ) → LeastFrom (both m g h) 0 r → is_some r ≡ shares m g h
shares_least m laws g h sound None least =
    let e = (decides_every (λ s. not (both m g h s)) m.size).1 (λ k z. grind (arith, least k)) in
    grind arith
shares_least m laws g h sound (Some s) least =
    let held : m.holds g s ≡ true = grind (arith, least.1) in
    let e = every_fails (λ s. not (both m g h s)) m.size s (laws.guard_inside g s sound held) (grind (arith, least.1)) in
    grind arith
