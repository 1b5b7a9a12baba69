-- One step more behind the others.
use Rattle.std.proofs.Common.{◌≡◌, ℕ, ◌+◌, ◌*◌, ◌<◌, ◌≤◌, List, [], ◌∷◌, ◌++◌, length, get_or, set, Option, sym, refl, ap, ◌∙◌, subst, mul-le-mul_right, arith}
use native.Mathlib.Decide.{dec_lt}
use Rattle.std.proofs.lemmas.List.{length-append, get_or_append_left, get_or_push, get_or-set_same, get_or-set_other, map-append}
use Rattle.machine.specs.Lag.{lag_of}
use Rattle.machine.specs.Explored.{Partway}
use Rattle.machine.specs.Texts.{texts}
use Rattle.machine.specs.Covered.{Covered}
use Rattle.machine.proofs.Turns.{partway_grown, partway_skipped, partway_turned}
use Rattle.alphabet.specs.Model.{Model}
use Rattle.table.specs.Table.{Table}
use Rattle.filter.specs.Machines.{machine_of}
use Rattle.steps.specs.declared.step.Visit.{Visit}
use Rattle.steps.specs.declared.step.Visit.TheVariants.{Second}
use Rattle.steps.specs.declared.step.Step.{Step}
use Rattle.steps.specs.declared.step.Hand.{Hand}
use Rattle.steps.specs.declared.step.Hand.TheVariants.{Left, Right}
use Rattle.steps.specs.Steps.{blank, at, side_of, nodes_of, text, Tree}
use Rattle.steps.specs.Places.{steps_needed_lem, place_at, ProperAt, Placed}
use Rattle.steps.proofs.Texts.{text_old, text_new}
use Rattle.steps.proofs.Placing.{place_room}
use Rattle.replay.specs.Replays.{Stands, Traced}
use Rattle.replay.proofs.Outputs.{parent_le}
use Rattle.judging.specs.Kept.{Mate, Kept, Going, Turned, Extends, text_by}

module _ (L : List Step) (y : Step) where
  at_old : (i : ℕ) → i < length L → at (L ++ (y ∷ [])) i ≡ at L i
  at_old i h = get_or_append_left L (y ∷ []) blank i h

  at_new : at (L ++ (y ∷ [])) (length L) ≡ y
  at_new = get_or_push L y blank (length L) refl

  -- what holds at each step, and at the new one
  each : (P : ℕ → Type 0) → ((i : ℕ) → i < length L → P i) → P (length L) → (i : ℕ) → i < length (L ++ (y ∷ [])) → P i
  each P old new i h =
      elim (dec_lt i (length L)) [
        | yes l ↦ old i l
        | no l ↦ let e : length L ≡ i = let k = length-append L (y ∷ []) in omega arith in subst P e new
      ]

  tree_push : Tree L → y.parent < length L → Tree (L ++ (y ∷ []))
  tree_push t h = record {
    some = simp length-append (omega arith);
    root = ap (λ (x : Step). x.parent) (at_old 0 t.some) ∙ t.root;
    rooted = λ i k l.
        each (λ j. 0 < j → (at (L ++ (y ∷ [])) j).parent < j)
        (λ j n o. subst (λ (x : Step). x.parent < j) (sym (at_old j n)) (t.rooted j o n))
        (λ o. subst (λ (x : Step). x.parent < length L) (sym at_new) h) i l k;
  }

  placed_push : (p q : ℕ) (C : List ℕ) → Placed p q L C → ProperAt p q y → place_at p q y < length C
      → ((i : ℕ) → i < length L → place_at p q (at L i) ≡ place_at p q y → ⊥) → Placed p q (L ++ (y ∷ [])) (set C (place_at p q y) (length L))
  placed_push p q C P proper within fresh = record {
    proper = each (λ i. ProperAt p q (at (L ++ (y ∷ [])) i))
        (λ i h. subst (λ (x : Step). ProperAt p q x) (sym (at_old i h)) (P.proper i h))
        (subst (λ (x : Step). ProperAt p q x) (sym at_new) proper);
    cell = each (λ i. get_or (set C (place_at p q y) (length L)) (place_at p q (at (L ++ (y ∷ [])) i)) 0 ≡ i)
        (λ i h. subst (λ (x : Step). get_or (set C (place_at p q y) (length L)) (place_at p q x) 0 ≡ i) (sym (at_old i h))
        (get_or-set_other C (place_at p q y) (place_at p q (at L i)) (length L) 0 (fresh i h) ∙ P.cell i h))
        (subst (λ (x : Step). get_or (set C (place_at p q y) (length L)) (place_at p q x) 0 ≡ length L) (sym at_new)
        (get_or-set_same C (place_at p q y) (length L) 0 within));
  }

  module _ {G T : Type 0} (m : Model G T) (F : Table G T) (h : Hand) where
    cast : (u v t z : List ℕ) (x : Step) → u ≡ v → t ≡ z → Stands m F u t x.symbol (side_of h x) → Stands m F v z x.symbol (side_of h x)
    cast u v t z x e f s = subst (λ o. Stands m F o z x.symbol (side_of h x)) e (subst (λ o. Stands m F u o x.symbol (side_of h x)) f s)

    traced_push : Tree L → Traced m F h L → y.parent < length L
        → Stands m F (text L y.parent) (text L y.parent ++ (y.symbol ∷ [])) y.symbol (side_of h y) → Traced m F h (L ++ (y ∷ []))
    traced_push tree R above new = record {
      stands = each (λ i. Stands m F (text M (at M i).parent) (text M i) (at M i).symbol (side_of h (at M i)))
          (λ i l. subst (λ (x : Step). Stands m F (text M x.parent) (text M i) x.symbol (side_of h x)) (sym (at_old i l))
          (cast (text L (at L i).parent) (text M (at L i).parent) (text L i) (text M i) (at L i)
          (sym (text_old L y tree.some (at L i).parent (omega (arith, parent_le m F h L tree R i l)))) (sym (text_old L y tree.some i l)) (R.stands i l)))
          (subst (λ (x : Step). Stands m F (text M x.parent) (text M (length L)) x.symbol (side_of h x)) (sym at_new)
          (cast (text L y.parent) (text M y.parent) (text L y.parent ++ (y.symbol ∷ [])) (text M (length L)) y
          (sym (text_old L y tree.some y.parent above)) (sym (text_new L y tree.some)) new));
    }
      where
        M : List Step
        M = L ++ (y ∷ [])

module _ {G T : Type 0} (m : Model G T) (F H : Table G T) (p q w : ℕ) (L : List Step) (C : List ℕ) where
  -- a step with its visit
  abbrev pub marked : Step → Visit → Step
  marked x visit = record { parent = x.parent; symbol = x.symbol; left = x.left; right = x.right; visit = visit }

  module _ (K : Kept m F H p q w L C) (x : Step) (E : Extends m F H p q w L x) (visit : Visit) (proper : ProperAt p q (marked x visit))
      (within : place_at p q (marked x visit) < length C)
      (fresh : (i : ℕ) → i < length L → place_at p q (at L i) ≡ place_at p q (marked x visit) → ⊥)
      (mate : visit ≡ Second → Mate m F H p q w L (text_by m F H p q w L x) x.left.state x.right.state) where
    y : Step
    y = marked x visit

    M : List Step
    M = L ++ (marked x visit ∷ [])

    some : 0 < length L
    some = K.tracks.tree.some

    mate_push : (t : List ℕ) (l r : Option ℕ) → Mate m F H p q w L t l r → Mate m F H p q w M t l r
    unfolding M
    mate_push t l r (i, h, e, differ) = (
      i,
      simp length-append (omega arith),
      ap (place_at p q) (at_old L (marked x visit) i h) ∙ e,
      λ f. differ (ap (lag_of (machine_of m F) (machine_of m H)) (sym (text_old L (marked x visit) some i h)) ∙ f),
    )

    wide : (x.parent + 1) * w ≤ length L * w
    wide = let h : x.parent + 1 ≤ length L = omega (arith, E.above) in mul-le-mul_right w h

    mates_old : (i : ℕ) → i < length L → (at (L ++ (marked x visit ∷ [])) i).visit ≡ Second
        → Mate m F H p q w M (text M i) (at (L ++ (marked x visit ∷ [])) i).left.state (at (L ++ (marked x visit ∷ [])) i).right.state
    unfolding M
    mates_old i h e =
        let a = at_old L (marked x visit) i h in
        let old = K.mates i h (ap (λ (z : Step). z.visit) (sym a) ∙ e) in
        subst (λ (z : Step). Mate m F H p q w M (text M i) z.left.state z.right.state) (sym a)
        (subst (λ t. Mate m F H p q w M t (at L i).left.state (at L i).right.state) (sym (text_old L (marked x visit) some i h)) (mate_push (text L i) (at L i).left.state (at L i).right.state old))

    mates_new : (at (L ++ (marked x visit ∷ [])) (length L)).visit ≡ Second
        → Mate m F H p q w M (text M (length L)) (at (L ++ (marked x visit ∷ [])) (length L)).left.state (at (L ++ (marked x visit ∷ [])) (length L)).right.state
    unfolding M
    mates_new e =
        let a = at_new L (marked x visit) in
        let new = mate (ap (λ (z : Step). z.visit) (sym a) ∙ e) in
        subst (λ (z : Step). Mate m F H p q w M (text M (length L)) z.left.state z.right.state) (sym a)
        (subst (λ t. Mate m F H p q w M t x.left.state x.right.state) (sym (text_new L (marked x visit) some)) (mate_push (text_by m F H p q w L x) x.left.state x.right.state new))

    -- all is kept with the new step, whose number goes into the cell of its place
    pub kept_push : Kept m F H p q w (L ++ (marked x visit ∷ [])) (set C (place_at p q (marked x visit)) (length L))
    unfolding M
    kept_push = record {
      tracks = record {
        tree = tree_push L (marked x visit) K.tracks.tree E.above;
        left = traced_push L (marked x visit) m F Left K.tracks.tree K.tracks.left E.above E.left;
        right = traced_push L (marked x visit) m H Right K.tracks.tree K.tracks.right E.above E.right;
      };
      lefts = each L (marked x visit) (λ i. (at (L ++ (marked x visit ∷ [])) i).left.total ≤ i * w)
          (λ i h. subst (λ (z : Step). z.left.total ≤ i * w) (sym (at_old L (marked x visit) i h)) (K.lefts i h))
          (subst (λ (z : Step). z.left.total ≤ length L * w) (sym (at_new L (marked x visit))) (omega (arith, wide, E.short_left)));
      rights = each L (marked x visit) (λ i. (at (L ++ (marked x visit ∷ [])) i).right.total ≤ i * w)
          (λ i h. subst (λ (z : Step). z.right.total ≤ i * w) (sym (at_old L (marked x visit) i h)) (K.rights i h))
          (subst (λ (z : Step). z.right.total ≤ length L * w) (sym (at_new L (marked x visit))) (omega (arith, wide, E.short_right)));
      placed = placed_push L (marked x visit) p q C K.placed proper within fresh;
      mates = each L (marked x visit) (λ i. (at (L ++ (marked x visit ∷ [])) i).visit ≡ Second → Mate m F H p q w (L ++ (marked x visit ∷ [])) (text (L ++ (marked x visit ∷ [])) i) (at (L ++ (marked x visit ∷ [])) i).left.state (at (L ++ (marked x visit ∷ [])) i).right.state) mates_old mates_new;
    }

    -- there is a slot for it
    pub push_room : length L < steps_needed_lem p q
    push_room = let l = length-append L (marked x visit ∷ []) in omega (arith, place_room p q (L ++ (marked x visit ∷ [])) (set C (place_at p q (marked x visit)) (length L)) kept_push.placed)

    -- the search goes on behind it
    pub going_push : Going m F H p q w L C x.parent x.symbol → Going m F H p q w (L ++ (marked x visit ∷ [])) (set C (place_at p q (marked x visit)) (length L)) x.parent (x.symbol + 1)
    going_push D =
        let node : Step → ℕ × ℕ = λ z. (z.parent, z.symbol) in
        record {
          kept = kept_push;
          way = subst (λ ns. Partway (machine_of m F) (machine_of m H) (texts ns) x.parent (x.symbol + 1)) (sym (map-append node L (marked x visit ∷ [])))
              (partway_grown (machine_of m F) (machine_of m H) (nodes_of L) x.parent x.symbol D.way);
        }

  -- symbols whose texts are covered are left out
  pub going_skip : (k s r : ℕ) → Going m F H p q w L C k s → s ≤ r → ((c : ℕ) → s ≤ c → c < r → Covered (machine_of m F) (machine_of m H) (text L k ++ (c ∷ []))) → Going m F H p q w L C k r
  unfolding text
  going_skip k s r D h covered = record { kept = D.kept; way = partway_skipped (machine_of m F) (machine_of m H) (texts (nodes_of L)) k s D.way r h covered }

  pub going_past : (k s : ℕ) → Going m F H p q w L C k s → Covered (machine_of m F) (machine_of m H) (text L k ++ (s ∷ [])) → Going m F H p q w L C k (s + 1)
  going_past k s D covered =
      going_skip k s (s + 1) D (omega arith)
      (λ c h l. let e : s ≡ c = omega arith in subst (λ o. Covered (machine_of m F) (machine_of m H) (text L k ++ (o ∷ []))) e covered)

  -- no symbol is left
  pub going_turned : (k s : ℕ) → Going m F H p q w L C k s → ((c : ℕ) → s ≤ c → Covered (machine_of m F) (machine_of m H) (text L k ++ (c ∷ []))) → Turned m F H p q w L C (k + 1)
  unfolding text
  going_turned k s D covered = record { kept = D.kept; ready = partway_turned (machine_of m F) (machine_of m H) (texts (nodes_of L)) k s D.way covered }
