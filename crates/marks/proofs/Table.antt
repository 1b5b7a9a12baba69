-- The table of characters and its rule: one test over all 37 entries, which antt computes.
use Rattle.std.proofs.Common.{◌≡◌, ℕ, ◌<◌, Bool, true, List, get_or, Some, None, codes, Option, refl, arith}
use Rattle.std.proofs.lemmas.Bool.Decides.{nat_tests}
use Rattle.alphabet.specs.Questions.{every, gives}
use Rattle.alphabet.proofs.Bounded.{decides_every}
use Rattle.marks.specs.Letters.{letter_of, mark_of}

abbrev pub letters : List ℕ
letters = codes "0123456789ABCDEFGHIJKLMNOPQRSTUVWXYZ*"

-- the table has at this place what the rule says
abbrev right : ℕ → Bool
right k = gives (letter_of k) (get_or letters k 0)

all_right : every 37 right ≡ true
unfolding every
all_right = refl

given_is : (o : Option ℕ) (c : ℕ) → gives o c ≡ true → Some c ≡ o
given_is None c e = grind arith
given_is (Some x) c e = grind (arith, nat_tests)

-- the table has the character of each mark
pub letter_at : (k : ℕ) → k < 37 → Some (get_or letters k 0) ≡ letter_of k
letter_at k h = given_is (letter_of k) (get_or letters k 0) ((decides_every right 37).0 all_right k h)

-- the mark of a mark's character is that mark
pub mark_of_letter : (n b : ℕ) → letter_of n ≡ Some b → mark_of b ≡ Some n
mark_of_letter n b e = grind (arith, nat_tests)
