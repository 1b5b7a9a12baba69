-- The two meanings of a sound filter agree: paths are runs, final outputs are the machine's, and so is what is written.
use Rattle.std.proofs.Common.{◌≡◌, ℕ, ◌<◌, cond, eqb, List, [], ◌∷◌, ◌++◌, Some, None, Option, sym, refl, ap, ◌∙◌, subst, arith}
use Rattle.std.specs.List.{slice_get, AllByRecursion}
use Rattle.std.proofs.lemmas.Bool.Decides.{nat_tests}
use Rattle.machine.specs.Machine.{run, moved, prefixed, transduced}
use Rattle.alphabet.specs.Model.{Model}
use Rattle.alphabet.specs.Laws.{Lawful}
use Rattle.table.specs.declared.entries.State.{State}
use Rattle.table.specs.Table.{Table, final_outputs}
use Rattle.table.specs.Sound.{Sound, Constant}
use Rattle.filter.specs.Machines.{values_of, machine_of}
use Rattle.filter.specs.Meaning.{SameOn, Values, Path, Final, Writes}
use Rattle.filter.specs.Agrees.{Agrees}
use Rattle.filter.proofs.Moves.{some_before, values_are, move_steps, step_moves}

-- what is written in all is what was written before, and then what is written next
moved_some : (x : List ℕ) (o : Option (ℕ × List ℕ)) (q : ℕ) (v : List ℕ) → moved x o ≡ Some (q, v) → (y : List ℕ) × (o ≡ Some (q, y)) × (v ≡ x ++ y)
moved_some x None q v e = absurd (grind arith)
moved_some x (Some r) q v e =
    let same : ◌≡◌ {A = ℕ × List ℕ} (r.0, x ++ r.1) (q, v) = cc in
    (r.1, ap (λ p. Some (p, r.1)) (ap (λ (y : ℕ × List ℕ). y.0) same), sym (ap (λ (y : ℕ × List ℕ). y.1) same))

prefixed_some : (x : List ℕ) (o : Option (List ℕ)) (v : List ℕ) → prefixed x o ≡ Some v → (y : List ℕ) × (o ≡ Some y) × (v ≡ x ++ y)
prefixed_some x None v e = absurd (grind arith)
prefixed_some x (Some y) v e = (y, refl, cc)

module _ {G T : Type 0} (m : Model G T) where
  -- constants have at every symbol the values that they have at 0
  values_constant : (ts : List T) → AllByRecursion (Constant m) ts → (s : ℕ) → 0 < m.size → s < m.size → Values m ts s (values_of m ts 0)
  values_constant [] h s some l = tt
  values_constant (t ∷ ts) h s some l = rw (h.0.1.1 0 some) (h.0.1.1 s l, values_constant ts h.1 s some l)

  module _ (F : Table G T) (L : Lawful m) (S : Sound m F) where
    -- a path is a run, and a run a path
    pub path_runs : (u : List ℕ) (p : ℕ) (v : List ℕ) (q : ℕ) → Path m F p u v q → run (machine_of m F) u p ≡ Some (q, v)
    unfolding run
    path_runs [] p v q h = rw (h.0, h.1)
    path_runs (s ∷ u) p v q (x, r, y, M, P, e) = rw (move_steps m F S p s x r M, path_runs u r y q P, e)

    pub run_paths : (u : List ℕ) (p : ℕ) (v : List ℕ) (q : ℕ) → run (machine_of m F) u p ≡ Some (q, v) → Path m F p u v q
    unfolding run
    run_paths [] p v q e =
        let same : ◌≡◌ {A = ℕ × List ℕ} (p, []) (q, v) = cc in
        (ap (λ (y : ℕ × List ℕ). y.0) same, sym (ap (λ (y : ℕ × List ℕ). y.1) same))
    run_paths (s ∷ u) p v q e = go (some_before ((machine_of m F).step p s) (λ r. moved r.1 (run (machine_of m F) u r.0)) (q, v) e) (run_paths u)
      where
        go : (r : ℕ × List ℕ) × ((machine_of m F).step p s ≡ Some r) × (moved r.1 (run (machine_of m F) u r.0) ≡ Some (q, v))
            → ((p : ℕ) (v : List ℕ) (q : ℕ) → run (machine_of m F) u p ≡ Some (q, v) → Path m F p u v q) → Path m F p (s ∷ u) v q
        go (r, a, b) ih =
            let d = moved_some r.1 (run (machine_of m F) u r.0) q v b in
            (r.1, r.0, d.0, step_moves m F S p s r.1 r.0 a, ih r.0 d.0 q d.1, d.2)

    -- and so for final outputs
    pub final_is : (q : ℕ) (v : List ℕ) → Final m F q v → (machine_of m F).final q ≡ Some v
    unfolding machine_of
    final_is q v f = rw (f.is, f.accepts, values_are m (final_outputs F q) 0 v (f.writes 0 L.size_low))

    pub is_final : (q : ℕ) (v : List ℕ) → (machine_of m F).final q ≡ Some v → Final m F q v
    unfolding machine_of
    is_final q v e = go (some_before (slice_get F.states q) (λ (x : State). cond (eqb x.mark 1) (Some (values_of m (final_outputs F q) 0)) None) v e)
      where
        go : (x : State) × (slice_get F.states q ≡ Some x) × (cond (eqb x.mark 1) (Some (values_of m (final_outputs F q) 0)) None ≡ Some v) → Final m F q v
        go (x, a, b) =
            let out : values_of m (final_outputs F q) 0 ≡ v = grind arith in
            record {
              state = x;
              is = a;
              accepts = grind (arith, nat_tests);
              writes = λ s l. subst (Values m (final_outputs F q) s) out (values_constant (final_outputs F q) (S.final q) s L.size_low l);
            }

    -- what the filter writes is what its machine does
    pub writes_transduced : (u v : List ℕ) → Writes m F u v → transduced (machine_of m F) u ≡ Some v
    writes_transduced u v W = rw (path_runs u 0 W.on_the_way W.end W.path, final_is W.end W.at_the_end W.final, W.is)

    pub transduced_writes : (u v : List ℕ) → transduced (machine_of m F) u ≡ Some v → Writes m F u v
    transduced_writes u v e = go (some_before (run (machine_of m F) u 0) (λ r. prefixed r.1 ((machine_of m F).final r.0)) v e)
      where
        go : (r : ℕ × List ℕ) × (run (machine_of m F) u 0 ≡ Some r) × (prefixed r.1 ((machine_of m F).final r.0) ≡ Some v) → Writes m F u v
        go (r, a, b) =
            let d = prefixed_some r.1 ((machine_of m F).final r.0) v b in
            record {
              end = r.0;
              on_the_way = r.1;
              at_the_end = d.0;
              path = run_paths u 0 r.1 r.0 a;
              final = is_final r.0 d.0 d.1;
              is = d.2;
            }

    -- it writes nothing for just the texts that its machine rejects
    pub rejected_writes_nothing : (u : List ℕ) → transduced (machine_of m F) u ≡ None → (v : List ℕ) → Writes m F u v → ⊥
    rejected_writes_nothing u e v W = let f = writes_transduced u v W in grind arith

    pub writes_nothing_rejected : (u : List ℕ) → ((v : List ℕ) → Writes m F u v → ⊥) → transduced (machine_of m F) u ≡ None
    writes_nothing_rejected u none = go (transduced (machine_of m F) u) (transduced_writes u)
      where
        go : (o : Option (List ℕ)) → ((v : List ℕ) → o ≡ Some v → Writes m F u v) → o ≡ None
        go None w = refl
        go (Some v) w = absurd (none v (w v refl))

    pub agrees : Agrees m F
    agrees = record {
      writes_transduced = writes_transduced;
      transduced_writes = transduced_writes;
      rejected_writes_nothing = rejected_writes_nothing;
      writes_nothing_rejected = writes_nothing_rejected;
    }

  module _ (F H : Table G T) (L : Lawful m) (R : Sound m F) (S : Sound m H) where
    -- filters that do the same to a text transduce it alike, and the other way round
    pub same_transduced : (u : List ℕ) → SameOn m F H u → transduced (machine_of m F) u ≡ transduced (machine_of m H) u
    same_transduced u E = go (transduced (machine_of m F) u) refl
      where
        go : (o : Option (List ℕ)) → transduced (machine_of m F) u ≡ o → o ≡ transduced (machine_of m H) u
        go None e = sym (writes_nothing_rejected H L S u (λ v W. rejected_writes_nothing F L R u e v ((E v).1 W)))
        go (Some v) e = sym (writes_transduced H L S u v ((E v).0 (transduced_writes F L R u v e)))

    pub transduced_same : (u : List ℕ) → transduced (machine_of m F) u ≡ transduced (machine_of m H) u → SameOn m F H u
    transduced_same u e v = (
      λ W. transduced_writes H L S u v (sym e ∙ writes_transduced F L R u v W),
      λ W. transduced_writes F L R u v (e ∙ writes_transduced H L S u v W),
    )
