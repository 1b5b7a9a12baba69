use Rattle.std.proofs.Common.{◌≡◌, ℕ, ◌-◌, List, length, take, vec_items, Ok, Err, Result, Vec, Global, IfOk, sym, refl, ap, ◌∙◌, subst, arith, rules}
use Rattle.holdings.specs.Memory.{memory_of}
use Rattle.answers.specs.declared.comparison.Comparison.TheVariants.{Distinguished}
use Rattle.shelf_law.specs.Holdings.{numbered}
use Rattle.shelf_law.specs.Scratch.{scratch_of}
use Rattle.shelf_law.specs.Comparing.{Earliest}
use Rattle.shelving.proofs.Separating.{told_pair, told_front, told_within}
use Rattle.shelving.proofs.pair_texts.text_between.Goals as goal
use Rattle.shelving.proofs.pair_texts.text_between.Goals.{in_default-via-in-Ok+in_default, in_default-via-in_default}

pub returns-in_default : goal.returns-in_default
returns-in_default g c =
    let S = scratch_of (length c.args.steps.now) (length c.args.symbols.now) in
    let w = c.args.witness.now in
    let t = told_pair g.A.Alphabet.model S (length w) (memory_of c.args.shelf.now) c.requires.separable c.args.first c.args.second c.requires.low c.requires.order c.requires.high w refl c.compare-answer.result c.compare-answer.new.witness c.compare-answer.ensures.compares in
    let a = t.answer in
    absurd (elim c.in_default.branch [ in_default-via-in-Ok+in_default w ↦ let e = rw a at w.in_default.is in grind (arith, e) | in_default-via-in_default w ↦ grind (arith, a, w.in_default.is) ])

pub slice_bounds-from_slice-end : goal.slice_bounds-from_slice-end
slice_bounds-from_slice-end g c =
    let S = scratch_of (length c.args.steps.now) (length c.args.symbols.now) in
    let w = c.args.witness.now in
    let t = told_pair g.A.Alphabet.model S (length w) (memory_of c.args.shelf.now) c.requires.separable c.args.first c.args.second c.requires.low c.requires.order c.requires.high w refl c.compare-answer.result c.compare-answer.new.witness c.compare-answer.ensures.compares in
    let f : c.in-Ok-Distinguished.field-0 ≡ Distinguished c.in-Ok-Distinguished.length = rw c.in-Ok-Distinguished.is at c.in-Ok-Distinguished.field-0-is in
    let within = told_within t c.in-Ok-Distinguished.length (c.in-Ok-Distinguished.is ∙ ap Ok f) in
    search rules

-- a text copied is the text
copied : {E : Type 0} (P : List ℕ → Type 0) (n : ℕ) (w : List ℕ) (r : Result (Vec ℕ Global) E) → P (take n w) → IfOk r (λ v. vec_items v ≡ take (n - 0) w) → IfOk r (λ v. P (vec_items v))
copied P n w (Ok v) p e = let zero : n - 0 ≡ n = omega arith in subst P (sym (e ∙ ap (λ k. take k w) zero)) p
copied P n w (Err x) p e = e

pub returns : goal.returns
returns g c =
    let m = g.A.Alphabet.model in
    let M = memory_of c.args.shelf.now in
    let S = scratch_of (length c.args.steps.now) (length c.args.symbols.now) in
    let w = c.args.witness.now in
    let t = told_pair m S (length w) M c.requires.separable c.args.first c.args.second c.requires.low c.requires.order c.requires.high w refl c.compare-answer.result c.compare-answer.new.witness c.compare-answer.ensures.compares in
    let n = c.in-Ok-Distinguished.length in
    let f : c.in-Ok-Distinguished.field-0 ≡ Distinguished n = rw c.in-Ok-Distinguished.is at c.in-Ok-Distinguished.field-0-is in
    let is = c.in-Ok-Distinguished.is ∙ ap Ok f in
    let E = Earliest m (numbered M c.args.first) (numbered M c.args.second) in
    copied E n c.compare-answer.new.witness c.from_slice.result (subst E (sym (told_front t n is)) t.earliest) c.from_slice.ensures.items
