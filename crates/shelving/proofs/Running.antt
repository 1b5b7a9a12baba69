-- One body more filed.
use Rattle.std.proofs.Common.{◌≡◌, ℕ, ◌+◌, List, [], ◌∷◌, ◌++◌, Result, sym, ap, ◌∙◌, subst}
use Rattle.alphabet.specs.Model.{Model}
use Rattle.table.specs.Table.{Table}
use Rattle.answers.specs.declared.fault.Fault.{Fault}
use Rattle.holdings.specs.Memory.{Memory, holding}
use Rattle.shelf_law.specs.Scratch.{Scratch}
use Rattle.shelf_law.specs.Calls.{Filing, Does}
use Rattle.shelving.specs.declared.report.Verdict.{Verdict}
use Rattle.shelving.specs.Verdicts.{verdict_of_lem}
use Rattle.shelving.specs.Runs.{Run, begun, filed}

module _ {G T : Type 0} (m : Model G T) (S : Scratch) (bodies M : Memory G T) where
  pub run_none : (vs : List Verdict) → vs ≡ [] → Run m S bodies M 0 vs M
  run_none vs none = subst (λ x. Run m S bodies M 0 x M) (sym none) begun

  pub run_more : (n : ℕ) (vs : List Verdict) (A : Memory G T) → Run m S bodies M n vs A → (S₂ : Scratch) → S₂ ≡ S → (F : Table G T) → F ≡ holding bodies n → (r : Result ℕ Fault) (B : Memory G T) → Does m S₂ A (Filing F) r B
      → (v : Verdict) → v ≡ verdict_of_lem r → (ws : List Verdict) → ws ≡ vs ++ v ∷ [] → Run m S bodies M (n + 1) ws B
  run_more n vs A R S₂ same F is r B D v told ws more =
      let D₁ = subst (λ X. Does m X A (Filing F) r B) same D in
      let D₂ = subst (λ X. Does m S A (Filing X) r B) is D₁ in
      subst (λ x. Run m S bodies M (n + 1) x B) (sym (more ∙ ap (λ x. vs ++ x ∷ []) told)) (filed n vs A B r R D₂)
