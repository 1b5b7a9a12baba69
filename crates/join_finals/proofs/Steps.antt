-- One symbol of the run over constants, and the end of it.
use Rattle.std.proofs.Common.{◌≡◌, ℕ, ◌+◌, ◌-◌, ◌<◌, ◌≤◌, List, [], ◌∷◌, ◌++◌, length, get_or, take, drop, Some, None, Option, sym, refl, ap, ◌∙◌, append_assoc, append-nil, arith}
use borrow.Rule.Slice.PartMut.{put_mid, post_of}
use Rattle.std.specs.Option.{option_to_list}
use Rattle.std.specs.Result.{result_ok}
use Rattle.std.proofs.lemmas.List.{take_more, take-append-drop, drop_more, take_at, length-append, length-take-le, length-drop, take_rest}
use Rattle.machine.specs.Machine.{Machine, and_then, moved, prefixed, run, transduced_from}
use Rattle.machine.specs.Walk.{or_else, position, written}
use Rattle.machine.proofs.Runs.{run_append}
use Rattle.alphabet.specs.Model.{Model}
use Rattle.filter.specs.Machines.{values_of}
use Rattle.filter.specs.Outcomes.{put, end_of, walked, behind, finished}
use Rattle.filter.proofs.Puts.{put_append, put_front}
use Rattle.join_laws.proofs.Ways.{values_append}
use Rattle.join_finals.specs.Finals.{Ends}
use Rattle.join_finals.proofs.Short.{ShortEnd}

some_parts : (a b : ℕ × ℕ) → Some a ≡ Some b → (a.0 ≡ b.0) × (a.1 ≡ b.1)
some_parts a b e = let k : a ≡ b = cc in (ap (λ (x : ℕ × ℕ). x.0) k, ap (λ (x : ℕ × ℕ). x.1) k)

-- a walk over one symbol is one step
module _ (M : Machine) (p s : ℕ) where
  abbrev pub Stepped : ℕ → ℕ → Type 0
  Stepped next k = (v : List ℕ) × (M.step p s ≡ Some (next, v)) × (k ≡ length v) × (written M (s ∷ []) p ≡ v)

  pub walk_steps : (next k : ℕ) → Some (next, k) ≡ result_ok (walked M (s ∷ []) p) → Stepped next k
  unfolding run position written
  walk_steps next k e = go (M.step p s) refl e
    where
      go : (o : Option (ℕ × List ℕ)) → M.step p s ≡ o
          → Some (next, k) ≡ result_ok (end_of (or_else o 0 (λ r. 1 + 0)) (and_then o (λ r. moved r.1 (Some (r.0, [])))))
          → Stepped next k
      go None f h = absurd (grind arith)
      go (Some (r, v)) f h =
          let parts = some_parts (next, k) (r, length (v ++ [])) h in
          (v, f ∙ ap (λ n. Some (n, v)) (sym parts.0), parts.1 ∙ ap length (append-nil v), ap (λ o. or_else o [] (λ r. r.1 ++ [])) f ∙ append-nil v)

  pub walk_stuck : None ≡ result_ok (walked M (s ∷ []) p) → M.step p s ≡ None
  unfolding run position written
  walk_stuck e = go (M.step p s) refl e
    where
      go : (o : Option (ℕ × List ℕ)) → M.step p s ≡ o
          → None ≡ result_ok (end_of (or_else o 0 (λ r. 1 + 0)) (and_then o (λ r. moved r.1 (Some (r.0, [])))))
          → M.step p s ≡ None
      go None f h = f
      go (Some r) f h = absurd (grind arith)

-- symbols written behind those at the front of a buffer
pub put_behind : (v y out : List ℕ) (n : ℕ) → take n out ≡ v → n + length y ≤ length out → take (n + length y) (put n y out) ≡ v ++ y
put_behind v y out n e h =
    let long : length v ≡ n = ap length (sym e) ∙ length-take-le n out (omega arith) in
    let same : put 0 v out ≡ out = put_front v out (omega arith) ∙ ap (λ k. v ++ drop k out) long ∙ ap (λ l. l ++ drop n out) (sym e) ∙ take-append-drop n out in
    let whole : put n y out ≡ (v ++ y) ++ drop (length (v ++ y)) out =
    ap (λ o. put n y o) (sym same) ∙ ap (λ k. put k y (put 0 v out)) (sym long ∙ zero (length v)) ∙ sym (put_append 0 v y out) ∙ put_front (v ++ y) out (omega (arith, length-append v y)) in
    ap (take (n + length y)) whole ∙ take_at (v ++ y) (drop (length (v ++ y)) out) (n + length y) (omega (arith, length-append v y))
  where
    zero : (k : ℕ) → k ≡ 0 + k
    zero k = omega arith

module _ {G T : Type 0} (m : Model G T) (ts : List T) (i : ℕ) (t : T) (inside : i < length ts) (read : t ≡ get_or ts i t) where
  pub values_upto : (o : Option ℕ) → m.value t 0 ≡ o → values_of m (take (i + 1) ts) 0 ≡ values_of m (take i ts) 0 ++ option_to_list o
  values_upto o e =
      ap (λ l. values_of m l 0) (take_more ts i t inside ∙ ap (λ x. take i ts ++ x ∷ []) (sym read))
      ∙ values_append m (take i ts) (t ∷ []) 0
      ∙ ap (λ v. values_of m (take i ts) 0 ++ v) (append-nil (option_to_list (m.value t 0)) ∙ ap option_to_list e)

  -- no move at this symbol is none over all
  pub run_stuck : (M : Machine) (start p : ℕ) (w : List ℕ) (s : ℕ) → m.value t 0 ≡ Some s → run M (values_of m (take i ts) 0) start ≡ Some (p, w) → M.step p s ≡ None
      → run M (values_of m ts 0) start ≡ None
  unfolding run
  run_stuck M start p w s e ran none =
      let u = values_of m (take i ts) 0 in
      let rest = values_of m (drop (i + 1) ts) 0 in
      let split : values_of m ts 0 ≡ u ++ (s ∷ rest) =
      ap (λ l. values_of m l 0) (sym (take-append-drop i ts) ∙ ap (λ l. take i ts ++ l) (drop_more ts i t inside ∙ ap (λ x. x ∷ drop (i + 1) ts) (sym read)))
      ∙ values_append m (take i ts) (t ∷ drop (i + 1) ts) 0 ∙ ap (λ o. u ++ (option_to_list o ++ rest)) e in
      ap (λ l. run M l start) split ∙ run_append M u (s ∷ rest) start ∙ ap (λ o. and_then o (λ r. moved r.1 (run M (s ∷ rest) r.0))) ran
      ∙ ap (λ o. moved w (and_then o (λ r. moved r.1 (run M rest r.0)))) none

-- the final output behind what the run wrote
pub final_ends : (M : Machine) (q p n : ℕ) (u out out' : List ℕ) (o : Option (List ℕ)) → run M u q ≡ Some (p, take n out) → M.final p ≡ o → n ≤ 1024 → 1056 ≤ length out → ShortEnd o → length out' ≡ length out → out' ≡ finished n o out
    → Ends (transduced_from M u q) out' (behind n o)
final_ends M q p n u out out' None ran f few room short long is = ap (λ x. and_then x (λ r. prefixed r.1 (M.final r.0))) ran ∙ ap (prefixed (take n out)) f
final_ends M q p n u out out' (Some y) ran f few room short long is =
    let e : take (n + length y) out' ≡ take n out ++ y = ap (take (n + length y)) is ∙ put_behind (take n out) y out n refl (omega arith) in
    (ap (λ x. and_then x (λ r. prefixed r.1 (M.final r.0))) ran ∙ ap (prefixed (take n out)) f ∙ ap Some (sym e), omega arith)

-- the same as the checker shows a write to the rest of a buffer
pub put_mid_lem : (v w out ys : List ℕ) (n : ℕ) → take n out ≡ v → n + length w ≤ length out → ys ≡ put 0 w (take (length out - n) (drop n out)) → take (n + length w) (put_mid n (length out - n) out ys) ≡ v ++ w
put_mid_lem v w out ys n e h is =
    let post = post_of n (length out - n) out in
    let long : length (take n out) ≡ n = length-take-le n out (omega arith) in
    let wrote : ys ≡ w ++ drop (length w) (drop n out) = is ∙ ap (put 0 w) (take_rest out n) ∙ put_front w (drop n out) (omega (arith, length-drop n out)) in
    ap (λ l. take (n + length w) (take n out ++ (l ++ post))) wrote
    ∙ ap (λ l. take (n + length w) (take n out ++ l)) (append_assoc w (drop (length w) (drop n out)) post)
    ∙ ap (take (n + length w)) (sym (append_assoc (take n out) w (drop (length w) (drop n out) ++ post)))
    ∙ take_at (take n out ++ w) (drop (length w) (drop n out) ++ post) (n + length w) (omega (arith, length-append (take n out) w))
    ∙ ap (λ l. l ++ w) e
