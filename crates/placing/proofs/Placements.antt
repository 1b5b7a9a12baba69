-- What appending leaves is what putting a filter on a shelf has to leave.
use Rattle.std.proofs.Common.{◌≡◌, Bool, true, false, cond, Ok, Err, Result, sym, refl, ap, ◌∙◌, subst, arith}
use Rattle.alphabet.specs.Model.{Model}
use Rattle.table.specs.Table.{Table}
use Rattle.filter.specs.Meaning.{Equivalent}
use Rattle.answers.specs.declared.fault.Fault.{Fault}
use Rattle.answers.specs.declared.fault.Fault.TheVariants.{Full}
use Rattle.holdings.specs.Memory.{Memory}
use Rattle.holdings.specs.Append.{room_for, appended}
use Rattle.shelf_law.specs.Holdings.{EveryHolding, NoHolding}
use Rattle.shelf_law.specs.Scratch.{Scratch, Enough, Short}
use Rattle.shelf_law.specs.Placing.{Placing, full, held}

module _ {G T : Type 0} (m : Model G T) (S : Scratch) (M : Memory G T) (F : Table G T) where
  -- scratch that is not too small is enough
  pub long_enough : NoHolding M (Short m S F) → EveryHolding M (Enough m S F)
  long_enough none i within = let n = none i within in (grind arith, grind arith)

  module _ (none : NoHolding M (Short m S F)) (new : NoHolding M (Equivalent m F)) (A : Memory G T) (memory : A ≡ cond (room_for M F) (appended M F) M) where
    pub placed_full : (f : Fault) → cond {A = Result Unit Fault} (room_for M F) (Ok tt) (Err Full) ≡ Err f → Placing m S M F (Err f) A
    placed_full f e = go (room_for M F) refl e
      where
        go : (b : Bool) → room_for M F ≡ b → cond {A = Result Unit Fault} b (Ok tt) (Err Full) ≡ Err f → Placing m S M F (Err f) A
        go true room e = absurd (grind arith)
        go false no_room e =
            let kept : A ≡ M = memory ∙ ap (λ x. cond x (appended M F) M) no_room in
            let same : Full ≡ f = cc in
            subst (λ X. Placing m S M F (Err f) X) (sym kept) (subst (λ x. Placing m S M F (Err x) M) same (full (long_enough none) new no_room))

    pub placed_held : (x : Unit {0}) → cond {A = Result Unit Fault} (room_for M F) (Ok tt) (Err Full) ≡ Ok x → Placing m S M F (Ok A.head.holdings) A
    placed_held x e = go (room_for M F) refl e
      where
        go : (b : Bool) → room_for M F ≡ b → cond {A = Result Unit Fault} b (Ok tt) (Err Full) ≡ Ok x → Placing m S M F (Ok A.head.holdings) A
        go false no_room e = absurd (grind arith)
        go true room e =
            let more : A ≡ appended M F = memory ∙ ap (λ x. cond x (appended M F) M) room in
            subst (λ X. Placing m S M F (Ok X.head.holdings) X) (sym more) (held (long_enough none) new room)
