-- A text that was written to the front of a list, and the list then cut to the text's length.
use Rattle.std.proofs.Common.{◌≡◌, ℕ, Bool, true, false, cond, leb, List, ◌++◌, length, take, drop, Some, None, Ok, Option, refl, ap, ◌∙◌, arith}
use Rattle.std.specs.Option.{ok_or}
use Rattle.std.proofs.lemmas.List.{take_at}
use Rattle.steps.specs.Steps.{length_in, written_to}

-- the value of an option that was made a result
pub some_from_ok : {X E : Type 0} (o : Option X) (e : E) (x : X) → ok_or o e ≡ Ok x → Some x ≡ o
some_from_ok None e x h = grind arith
some_from_ok (Some y) e x h = cc

pub cut_is : (t w : List ℕ) (n : ℕ) → Some n ≡ length_in t (length w) → take n (written_to t w) ≡ t
cut_is t w n e = go (leb (length t) (length w)) e
  where
    go : (b : Bool) → Some n ≡ cond b (Some (length t)) None → take n (cond b (t ++ drop (length t) w) w) ≡ t
    go true h = let same : n ≡ length t = cc in ap (λ k. take k (t ++ drop (length t) w)) same ∙ take_at t (drop (length t) w) (length t) refl
    go false h = absurd (grind arith)
