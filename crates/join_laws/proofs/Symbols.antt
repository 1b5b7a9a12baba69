-- A sound filter writes symbols only.
use Rattle.std.proofs.Common.{◌≡◌, ℕ, ◌<◌, Bool, true, false, cond, ◌&&◌, eqb, List, [], ◌∷◌, ◌++◌, Some, None, Option, sym, refl, subst, arith}
use Rattle.std.specs.List.{slice_get, AllByRecursion}
use Rattle.std.specs.Option.{option_to_list}
use Rattle.std.proofs.ByRecursion.{All-weaker, All-append}
use Rattle.machine.specs.Machine.{and_then, prefixed, moved, run, transduced_from}
use Rattle.alphabet.specs.Model.{Model}
use Rattle.alphabet.specs.Laws.{Lawful}
use Rattle.table.specs.declared.entries.State.{State}
use Rattle.table.specs.Table.{Table, final_outputs}
use Rattle.table.specs.Sound.{Sound, Constant}
use Rattle.filter.specs.Machines.{values_of, machine_of}
use Rattle.join_laws.specs.Lists.{first}
use Rattle.join_laws.specs.Lines.{Line, lines_of, fires, goes}
use Rattle.join_laws.specs.Pairs.{Pair}
use Rattle.join_laws.specs.Joined.{final_at}
use Rattle.join_laws.proofs.Firsts.{first_passes, first_all}
use Rattle.join_laws.proofs.Lines.{Valued, Fits, lines_good, step_is}
use Rattle.join_laws.proofs.Tables.{Symbols}

module _ {G T : Type 0} (m : Model G T) (law : Lawful m) where
  -- what is written on the way consists of symbols
  abbrev pub Inside : Option (ℕ × List ℕ) → Type 0
  Inside None = Unit {0}
  Inside (Some r) = AllByRecursion (λ c. c < m.size) r.1

  values_inside : (ts : List T) (s : ℕ) → AllByRecursion (Valued m s) ts → AllByRecursion (λ c. c < m.size) (values_of m ts s)
  values_inside [] s all = tt
  values_inside (t ∷ ts) s ((st, (x, e)), all) =
      subst (λ o. AllByRecursion (λ c. c < m.size) (option_to_list o ++ values_of m ts s)) (sym e) (law.value_inside t s x st e, values_inside ts s all)

  prefixed_inside : (x : List ℕ) (o : Option (List ℕ)) → AllByRecursion (λ c. c < m.size) x → Symbols m o → Symbols m (prefixed x o)
  prefixed_inside x None all h = tt
  prefixed_inside x (Some y) all h = All-append (λ c. c < m.size) x y all h

  module _ (F : Table G T) (S : Sound m F) where
    step_inside : (q s : ℕ) → Inside ((machine_of m F).step q s)
    step_inside q s = subst Inside (sym (step_is m F q s)) (go (first (fires m q s) (lines_of F)) refl)
      where
        go : (o : Option (Line G T)) → first (fires m q s) (lines_of F) ≡ o → Inside (and_then o (goes m s))
        go None e = tt
        go (Some l) e =
            let fits = first_all (fires m q s) (λ (k : Line G T). Fits m k.guard k.outputs) (lines_of F) l (lines_good m F S).fits e in
            let fired = first_passes (fires m q s) (lines_of F) l e in
            values_inside l.outputs s (fits s (held (eqb l.state q) fired))
          where
            held : (b : Bool) → (b && m.holds l.guard s) ≡ true → m.holds l.guard s ≡ true
            held true h = h
            held false h = absurd (grind arith)

    run_inside : (u : List ℕ) (q : ℕ) → Inside (run (machine_of m F) u q)
    unfolding run
    run_inside [] q = tt
    run_inside (s ∷ u) q = go ((machine_of m F).step q s) (step_inside q s) (λ p. run_inside u p)
      where
        go : (o : Option (ℕ × List ℕ)) → Inside o → ((p : ℕ) → Inside (run (machine_of m F) u p)) → Inside (and_then o (λ r. moved r.1 (run (machine_of m F) u r.0)))
        go None h ih = tt
        go (Some (p, w)) h ih = both (run (machine_of m F) u p) (ih p)
          where
            both : (o : Option (ℕ × List ℕ)) → Inside o → Inside (moved w o)
            both None k = tt
            both (Some r) k = All-append (λ c. c < m.size) w r.1 h k

    final_inside : (q : ℕ) → Symbols m ((machine_of m F).final q)
    unfolding machine_of
    final_inside q = go (slice_get F.states q)
      where
        valued : AllByRecursion (Valued m 0) (final_outputs F q)
        valued = All-weaker (Constant m) (Valued m 0) (λ t k. (k.0, (k.1.0, k.1.1 0 (omega (arith, law.size_low))))) (final_outputs F q) (S.final q)

        by : (b : Bool) → Symbols m (cond b (Some (values_of m (final_outputs F q) 0)) None)
        by true = values_inside (final_outputs F q) 0 valued
        by false = tt

        go : (o : Option State) → Symbols m (and_then o (λ (e : State). cond (eqb e.mark 1) (Some (values_of m (final_outputs F q) 0)) None))
        go None = tt
        go (Some e) = by (eqb e.mark 1)

    transduced_inside : (u : List ℕ) (q : ℕ) → Symbols m (transduced_from (machine_of m F) u q)
    transduced_inside u q = go (run (machine_of m F) u q) (run_inside u q)
      where
        go : (o : Option (ℕ × List ℕ)) → Inside o → Symbols m (and_then o (λ r. prefixed r.1 ((machine_of m F).final r.0)))
        go None h = tt
        go (Some (p, w)) h = prefixed_inside w ((machine_of m F).final p) h (final_inside p)

  -- the final outputs of pairs
  pub finals_inside : (F H : Table G T) → Sound m H → (x : Pair) → Symbols m (final_at m F H x)
  unfolding final_at
  finals_inside F H S x = go ((machine_of m F).final x.0)
    where
      go : (o : Option (List ℕ)) → Symbols m (and_then o (λ w. transduced_from (machine_of m H) w x.1))
      go None = tt
      go (Some w) = transduced_inside H S w x.1
