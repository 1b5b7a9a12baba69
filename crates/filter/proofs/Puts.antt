-- Writing into a list from a place on: in two parts, and where all of it has room.
use Rattle.std.proofs.Common.{◌≡◌, ℕ, ◌+◌, ◌≤◌, List, [], ◌∷◌, ◌++◌, length, drop, set, refl, ap, ◌∙◌, add-one, arith}
use Rattle.filter.specs.Outcomes.{put}

pub put_append : (n : ℕ) (v w o : List ℕ) → put n (v ++ w) o ≡ put (n + length v) w (put n v o)
put_append n [] w o = let e : n ≡ n + 0 = omega arith in ap (λ k. put k w o) e
put_append n (x ∷ v) w o =
    let e : (n + 1) + length v ≡ n + length (x ∷ v) = omega arith in
    put_append (n + 1) v w (set o n x) ∙ ap (λ k. put k w (put (n + 1) v (set o n x))) e

put_later : (n : ℕ) (w : List ℕ) (x : ℕ) (o : List ℕ) → put (n + 1) w (x ∷ o) ≡ x ∷ put n w o
put_later n [] x o = refl
put_later n (y ∷ w) x o =
    let e : (n + 1) + 1 ≡ (n + 1) + 1 = refl in
    ap (put (n + 1 + 1) w) (set_later n y x o) ∙ put_later (n + 1) w x (set o n y)
  where
    set_later : (n y x : ℕ) (o : List ℕ) → set (x ∷ o) (n + 1) y ≡ x ∷ set o n y
    set_later n y x o = rw add-one

-- a list that has room begins with what is written and goes on as it was
pub put_front : (w o : List ℕ) → length w ≤ length o → put 0 w o ≡ w ++ drop (length w) o
put_front [] o h = refl
put_front (x ∷ w) [] h = absurd (omega arith)
put_front (x ∷ w) (y ∷ o) h = put_later 0 w x o ∙ ap (λ l. x ∷ l) (put_front w o (omega arith))
