-- Writing the values of terms, one after another.
use Rattle.std.proofs.Common.{ℕ, ◌≤◌, List, [], ◌∷◌, length, Some, None, Option, arith}
use Rattle.std.specs.Option.{option_to_list}
use Rattle.std.proofs.lemmas.List.{length-append}
use Rattle.alphabet.specs.Model.{Model}
use Rattle.filter.specs.Machines.{values_of}

-- no more values than terms
pub values_few : {G T : Type 0} (m : Model G T) (ts : List T) (s : ℕ) → length (values_of m ts s) ≤ length ts
values_few m [] s = omega arith
values_few m (t ∷ ts) s = omega (arith, one (m.value t s), length-append (option_to_list (m.value t s)) (values_of m ts s), values_few m ts s)
  where
    one : (o : Option ℕ) → length (option_to_list o) ≤ 1
    one None = omega arith
    one (Some x) = omega arith
