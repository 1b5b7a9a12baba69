-- What a body says that a reader hands out.
use Rattle.std.proofs.Common.{◌≡◌, ℕ, ◌+◌, ◌<◌, ◌≤◌, Bool, true, cond, ◌&&◌, ltb, List, Some, None, ap, ◌∙◌, sym, arith}
use Rattle.std.proofs.lemmas.Bool.Decides.{nat_tests}
use Rattle.codec_laws.specs.Numbers.{at}
use Rattle.stored_laws.specs.Format.{to_outputs_lem}
use Rattle.reader.specs.declared.body.Body.{Body}
use Rattle.reader.specs.Opened.{part_of}
use Rattle.reader.specs.Parts.{Parts, whole, counts_at_lem, body_at, parts_at, parts_of}

-- the parts of a body
abbrev pub parts : Body → Parts
parts b = record { counts = b.counts; states = part_of b.states; rules = part_of b.rules; outputs = part_of b.outputs }

module _ (file : List ℕ) (ok : whole file ≡ true) (i : ℕ) where
  some_of : (b : Bool) (x y : Parts) → Some x ≡ cond b (Some y) None → (b ≡ true) × (x ≡ y)
  some_of b x y e = (grind (arith, nat_tests), grind (arith, nat_tests))

  pub none_left : None ≡ parts_of file i → at file 1 ≤ i
  none_left e = grind (arith, nat_tests)

  module _ (b : Body) (e : Some (parts b) ≡ parts_of file i) where
    pub both : ((whole file && ltb i (at file 1)) ≡ true) × (parts b ≡ parts_at file (body_at file i) (counts_at_lem file i))
    both = some_of (whole file && ltb i (at file 1)) (parts b) (parts_at file (body_at file i) (counts_at_lem file i)) e

    pub there : i < at file 1
    there = let h = both.0 in grind (arith, nat_tests)

    pub counts_there : b.counts ≡ counts_at_lem file i
    counts_there = ap (λ (p : Parts). p.counts) both.1

    pub outputs_place : b.outputs.place ≡ body_at file i + to_outputs_lem b.counts
    outputs_place = ap (λ (p : Parts). p.outputs.place) both.1 ∙ ap (λ c. body_at file i + to_outputs_lem c) (sym counts_there)
