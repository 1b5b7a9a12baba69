-- The step that goes on from one of the steps.
use Rattle.std.proofs.Common.{◌≡◌, ℕ, ◌+◌, ◌*◌, ◌<◌, ◌≤◌, List, length, sym, ap, ◌∙◌, subst, add-mul, mul-le-mul, one-mul, arith}
use Rattle.alphabet.specs.Model.{Model}
use Rattle.table.specs.Table.{Table}
use Rattle.steps.specs.declared.step.Side.{Side}
use Rattle.steps.specs.declared.step.Visit.TheVariants.{First}
use Rattle.steps.specs.declared.step.Step.{Step}
use Rattle.steps.specs.Steps.{at, text}
use Rattle.steps.specs.Places.{steps_needed_lem}
use Rattle.steps.proofs.Placing.{product_most}
use Rattle.replay.specs.Replays.{Tracks}
use Rattle.moves.specs.Moves.{Moved, Known}
use Rattle.judging.specs.declared.frame.Frame.{Frame}
use Rattle.judging.specs.Frames.{Framed}
use Rattle.judging.specs.Kept.{Extends}

module _ {G T : Type 0} (F H : Table G T) (f : Frame) (B : Framed F H f) (n : ℕ) (few : n ≤ steps_needed_lem f.left f.right) where
  -- steps are few, and so are the symbols that they write
  pub number_small : n ≤ 8320
  number_small = omega (arith, product_most f.left f.right B.few_left B.few_right)

  pub total_small : n * f.width ≤ 266240
  total_small = mul-le-mul number_small B.most

  pub total_more : (n + 1) * f.width ≡ n * f.width + f.width
  total_more = add-mul n 1 f.width ∙ ap (λ k. n * f.width + k) (one-mul f.width)

module _ {G T : Type 0} (m : Model G T) (F H : Table G T) (f : Frame) (B : Framed F H f) (L : List Step) (R : Tracks m F H L)
    (k : ℕ) (within : k < length L) (few : length L ≤ steps_needed_lem f.left f.right) (s : ℕ) (l r : Side)
    (left : Moved m F (at L k).left s l) (right : Moved m H (at L k).right s r)
    (lefts : (at L k).left.total ≤ k * f.width) (rights : (at L k).right.total ≤ k * f.width) where
  pub extends_made : Extends m F H f.left f.right f.width L (record { parent = k; symbol = s; left = l; right = r; visit = First })
  extends_made =
      let a = R.left.stands k within in
      let b = R.right.stands k within in
      record {
        above = within;
        left = left.stands (text L k) a.state (a.sits.total ∙ ap length (sym a.output));
        right = right.stands (text L k) b.state (b.sits.total ∙ ap length (sym b.output));
        short_left = omega (arith, total_more F H f B k (omega arith), left.short, B.wide_left);
        short_right = omega (arith, total_more F H f B k (omega arith), right.short, B.wide_right);
        known_left = subst (λ n. Known n l.state) (sym B.left) left.known;
        known_right = subst (λ n. Known n r.state) (sym B.right) right.known;
      }
