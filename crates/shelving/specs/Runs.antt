-- Bodies filed one after another, and pairs of holdings told apart one after another.
use Rattle.std.specs.Prelude.{◌≡◌, ℕ, ◌+◌, ◌<◌, ◌≤◌, List, [], ◌∷◌, ◌++◌, length, vec_items, Result}
use Rattle.alphabet.specs.Model.{Model}
use Rattle.answers.specs.declared.fault.Fault.{Fault}
use Rattle.holdings.specs.Memory.{Memory, holding}
use Rattle.shelf_law.specs.Holdings.{numbered}
use Rattle.shelf_law.specs.Scratch.{Scratch}
use Rattle.shelf_law.specs.Calls.{Filing, Does}
use Rattle.shelf_law.specs.Comparing.{Earliest}
use Rattle.shelving.specs.declared.report.Verdict.{Verdict}
use Rattle.shelving.specs.declared.report.ToldPair.{ToldPair}
use Rattle.shelving.specs.Verdicts.{verdict_of_lem}

-- the first n bodies were filed in order on a shelf that was M, with these verdicts, and the shelf is now A
pub data Run {G T : Type 0} (m : Model G T) (S : Scratch) (bodies M : Memory G T) : ℕ → List Verdict → Memory G T → Type 0 where
  begun : Run m S bodies M 0 [] M
  filed : (n : ℕ) (vs : List Verdict) (A B : Memory G T) (r : Result ℕ Fault) → Run m S bodies M n vs A → Does m S A (Filing (holding bodies n)) r B → Run m S bodies M (n + 1) (vs ++ verdict_of_lem r ∷ []) B

-- all pairs of holdings before (i, j) were told apart, by the first number and then the second, each by the earliest of
-- the shortest texts that distinguish the two, which is given with its length
pub data Told {G T : Type 0} (m : Model G T) (M : Memory G T) : ℕ → ℕ → List ToldPair → Type 0 where
  none : Told m M 1 2 []
  -- the next first number
  row : (i j : ℕ) (ps : List ToldPair) → M.head.holdings < j → Told m M i j ps → Told m M (i + 1) (i + 2) ps
  pair : (p : ToldPair) (ps : List ToldPair) → p.pair.second ≤ M.head.holdings → p.pair.length ≡ length (vec_items p.text)
      → Earliest m (numbered M p.pair.first) (numbered M p.pair.second) (vec_items p.text) → Told m M p.pair.first p.pair.second ps
      → Told m M p.pair.first (p.pair.second + 1) (ps ++ p ∷ [])
