-- Sets of marks: a set has one guard only, and a constant narrows to all or nothing.
use Rattle.std.proofs.Common.{ℕ, sym, ap, ◌∙◌, inl, inr, arith, pow_pos}
use Rattle.std.proofs.lemmas.Bool.Decides.{nat_tests}
use Rattle.std.proofs.lemmas.Bool.{cases_Bool}
use Rattle.mark_laws.specs.declared.MarkTerm.TheVariants.{Constant}
use Rattle.mark_laws.specs.Marks.{bit, in_set, goes_into_lem}
use Rattle.mark_laws.specs.Sets.{Canonical, ConstantNarrows}
use Rattle.mark_laws.proofs.Bits.{bits_same, bits_of_bit, bit_above}

pub canonical : Canonical
canonical g h p q same =
    let e = bits_of_bit 37 g.bits (grind (arith, nat_tests)) in
    let f = bits_of_bit 37 h.bits (grind (arith, nat_tests)) in
    let s = bits_same 37 (bit g.bits) (bit h.bits) (λ k l. grind (arith, nat_tests, same k)) in
    ap (λ (n : ℕ). record { bits = n }) (sym e ∙ s ∙ f)

pub constant_narrows : ConstantNarrows
constant_narrows g h c p = elim (cases_Bool (in_set h c)) [
  | inl e ↦
      (let s = bits_same 37 (goes_into_lem g (Constant c) h) (bit g.bits) (λ k l. grind (arith, nat_tests)) in
      let f = bits_of_bit 37 g.bits (grind (arith, nat_tests)) in
      grind (arith, nat_tests))
  | inr e ↦
      (let s = bits_same 37 (goes_into_lem g (Constant c) h) (bit 0) (λ k l. grind (arith, nat_tests, bit_above 0 k (pow_pos k))) in
      let f = bits_of_bit 37 0 (omega arith) in
      grind (arith, nat_tests))
]
