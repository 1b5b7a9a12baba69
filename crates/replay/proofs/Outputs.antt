-- Writing an output from its end to its start.
use Rattle.std.proofs.Common.{◌≡◌, ℕ, zero, suc, ◌+◌, ◌-◌, ◌<◌, ◌≤◌, List, [], ◌∷◌, ◌++◌, length, take, drop, set, Some, None, Option, sym, refl, ap, ◌∙◌, append_assoc, append-nil, arith, take-add}
use native.Mathlib.Decide.{dec_lt}
use lib.Seq.{take-append-add}
use Rattle.std.proofs.lemmas.List.{append_cancel_left, length-append, length-set, length-take-le, take_more_set, drop-set-lt, take_at, take-append-drop, nil_from_length}
use Rattle.machine.specs.Machine.{run}
use Rattle.machine.specs.Sides.{output_of}
use Rattle.alphabet.specs.Model.{Model}
use Rattle.table.specs.Table.{Table}
use Rattle.filter.specs.Machines.{machine_of, values_of}
use Rattle.filter.specs.Outcomes.{put}
use Rattle.steps.specs.declared.step.Side.{Side}
use Rattle.steps.specs.declared.step.Step.{Step}
use Rattle.steps.specs.declared.step.Hand.{Hand}
use Rattle.steps.specs.Steps.{side_of, at, text, Tree}
use Rattle.steps.proofs.Texts.{text_zero}
use Rattle.replay.specs.Replays.{terms_of, living, output_by, Sits, Traced}

-- what is written in the middle of a list that has room
pub put_between : (n : ℕ) (v o : List ℕ) → n + length v ≤ length o → put n v o ≡ (take n o ++ v) ++ drop (n + length v) o
put_between n [] o h =
    let z : n + 0 ≡ n = omega arith in
    sym (ap (λ k. (take n o ++ []) ++ drop k o) z ∙ ap (λ t. t ++ drop n o) (append-nil (take n o)) ∙ take-append-drop n o)
put_between n (x ∷ v) o h =
    let l = length-set o n x in
    let e : (n + 1) + length v ≡ n + length (x ∷ v) = omega arith in
    let d = drop ((n + 1) + length v) (set o n x) in
    put_between (n + 1) v (set o n x) (omega arith)
    ∙ ap (λ t. (t ++ v) ++ d) (take_more_set o n x (omega arith))
    ∙ ap (λ t. t ++ d) (append_assoc (take n o) (x ∷ []) v)
    ∙ ap (λ t. (take n o ++ (x ∷ v)) ++ t) (drop-set-lt ((n + 1) + length v) o n x (omega arith) ∙ ap (λ k. drop k o) e)

pub put_length : (n : ℕ) (v o : List ℕ) → length (put n v o) ≡ length o
put_length n [] o = refl
put_length n (x ∷ v) o = put_length (n + 1) v (set o n x) ∙ length-set o n x

-- a part is written before what is there
pub put_before : (n total : ℕ) (v o rest : List ℕ) → n + length v ≤ total → total ≤ length o
    → take total o ≡ take (n + length v) o ++ rest → take total (put n v o) ≡ take n (put n v o) ++ (v ++ rest)
put_before n total v o rest h k e =
    let E = n + length v in
    let j = total - E in
    let D = drop E o in
    let front = take n o in
    let few = length-take-le n o (omega arith) in
    let long : length (front ++ v) ≡ E = length-append front v ∙ ap (λ i. i + length v) few in
    let sum : total ≡ E + j = omega arith in
    let same : total ≡ length (front ++ v) + j = omega (arith, long) in
    let known : put n v o ≡ (front ++ v) ++ D = put_between n v o (omega arith) in
    let tail : rest ≡ take j D = append_cancel_left (take E o) rest (take j D) (sym e ∙ ap (λ i. take i o) sum ∙ take-add E j o) in
    let head : take n (put n v o) ≡ front = ap (take n) (known ∙ append_assoc front v D) ∙ take_at front (v ++ D) n few in
    ap (take total) known ∙ ap (λ i. take i ((front ++ v) ++ D)) same ∙ take-append-add (front ++ v) D j
    ∙ ap (λ t. (front ++ v) ++ t) (sym tail) ∙ append_assoc front v rest ∙ ap (λ t. t ++ (v ++ rest)) (sym head)

module _ {G T : Type 0} (m : Model G T) (F : Table G T) where
  -- a side that has written something is alive
  pub output_alive : (u : List ℕ) (s : ℕ) (x : Side) → 0 < length (output_by m F u s x)
      → output_by m F u s x ≡ output_of (run (machine_of m F) u 0) ++ values_of m (terms_of F.outputs x) s
  unfolding output_by
  output_alive u s x h = go x.state (output_of (run (machine_of m F) u 0) ++ values_of m (terms_of F.outputs x) s) h
    where
      go : (q : Option ℕ) (o : List ℕ) → 0 < length (living q o) → living q o ≡ o
      go None o h = absurd (omega arith)
      go (Some q) o h = refl

  module _ (h : Hand) (L : List Step) where
    -- all of the output behind what the step x says is written
    pub record Playing (whole : List ℕ) (total : ℕ) (x : Step) (out : List ℕ) : Type 0 where
      pub above : x.parent < length L
      pub sits : Sits m F (text L x.parent) x.symbol (side_of h x)
      pub fits : total ≤ length out
      pub inside : (side_of h x).total ≤ total
      pub rest : List ℕ
      pub split : whole ≡ output_by m F (text L x.parent) x.symbol (side_of h x) ++ rest
      pub done : take total out ≡ take (side_of h x).total out ++ rest

    module _ (tree : Tree L) (R : Traced m F h L) where
      -- the first step has written nothing
      pub root_total : (side_of h (at L 0)).total ≡ 0
      unfolding run
      root_total =
          let S = R.stands 0 tree.some in
          S.sits.total ∙ ap length (sym S.output ∙ ap (λ t. output_of (run (machine_of m F) t 0)) (text_zero L))

      -- a parent is no later than its step
      pub parent_le : (i : ℕ) → i < length L → (at L i).parent ≤ i
      parent_le zero l = omega (arith, tree.root)
      parent_le (suc i) l = omega (arith, tree.rooted (suc i) (omega arith) l)

      module _ (whole : List ℕ) (total : ℕ) (x : Step) (out : List ℕ) (W : Playing whole total x out) (some : 0 < (side_of h x).total) where
        -- the values of the last rule's outputs
        abbrev pub vals : List ℕ
        vals = values_of m (terms_of F.outputs (side_of h x)) x.symbol

        known : output_by m F (text L x.parent) x.symbol (side_of h x)
            ≡ output_by m F (text L (at L x.parent).parent) (at L x.parent).symbol (side_of h (at L x.parent)) ++ vals
        known =
            output_alive (text L x.parent) x.symbol (side_of h x) (omega (arith, W.sits.total))
            ∙ ap (λ t. t ++ vals) (R.stands x.parent W.above).output

        -- the symbols written before
        pub sum : (side_of h x).total ≡ (side_of h (at L x.parent)).total + ((side_of h x).to - (side_of h x).from)
        sum =
            omega (
              arith,
              W.sits.total,
              W.sits.full,
              ap length known,
              (R.stands x.parent W.above).sits.total,
              length-append (output_by m F (text L (at L x.parent).parent) (at L x.parent).symbol (side_of h (at L x.parent))) vals,
            )

        -- the next turn has fewer symbols or an earlier step
        pub lower : (side_of h (at L x.parent)).total + (at L x.parent).parent < (side_of h x).total + x.parent
        lower =
            elim (dec_lt 0 x.parent) [
              | yes l ↦ omega (arith, sum, tree.rooted x.parent l W.above)
              | no l ↦
                  let z : x.parent ≡ 0 = omega arith in
                  omega (arith, sum, root_total, tree.root, ap (λ i. (side_of h (at L i)).total) z, ap (λ i. (at L i).parent) z)
            ]

        -- one step's outputs are written
        pub playing_more : (place : ℕ) → place ≡ (side_of h x).total - ((side_of h x).to - (side_of h x).from)
            → Playing whole total (at L x.parent) (put place vals out)
        playing_more place e =
            let n : place ≡ (side_of h (at L x.parent)).total = omega (arith, sum) in
            let k : (side_of h x).total ≡ place + length vals = omega (arith, sum, W.sits.full) in
            let d = W.done ∙ ap (λ i. take i out ++ W.rest) k in
            let b = put_before place total vals out W.rest (omega (arith, W.inside)) W.fits d in
            record {
              above = omega (arith, parent_le x.parent W.above, W.above);
              sits = (R.stands x.parent W.above).sits;
              fits = omega (arith, put_length place vals out, W.fits);
              inside = omega (arith, sum, W.inside);
              rest = vals ++ W.rest;
              split = W.split ∙ ap (λ t. t ++ W.rest) known ∙ append_assoc (output_by m F (text L (at L x.parent).parent) (at L x.parent).symbol (side_of h (at L x.parent))) vals W.rest;
              done = b ∙ ap (λ i. take i (put place vals out) ++ (vals ++ W.rest)) n;
            }

    -- all is written
    pub playing_end : (whole : List ℕ) (total : ℕ) (x : Step) (out : List ℕ) → Playing whole total x out → (side_of h x).total ≡ 0
        → take total out ≡ whole
    playing_end whole total x out W none =
        let empty = nil_from_length (output_by m F (text L x.parent) x.symbol (side_of h x)) (sym W.sits.total ∙ none) in
        W.done ∙ ap (λ n. take n out ++ W.rest) none ∙ sym (W.split ∙ ap (λ t. t ++ W.rest) empty)
