-- The one test of all cases is computed, and so each case is true.
use Rattle.std.proofs.Common.{◌≡◌, true, refl}
use Rattle.std.specs.List.{AllByRecursion}
use Rattle.std.proofs.lemmas.Bool.{and_parts}
use Rattle.machine.specs.Machine.{run}
use Rattle.machine.specs.Lag.{lag}
use Rattle.alphabet.specs.Questions.{every}
use Rattle.range_laws.proofs.Laws as range-laws
use Rattle.mark_laws.specs.Marks.{marks, bit, bits_of}
use Rattle.mark_laws.proofs.Laws as mark-laws
use Rattle.filter.specs.Machines.{machine_of}
use Rattle.join_laws.specs.Lines.{lines_of}
use Rattle.join_laws.specs.Ways.{ways}
use Rattle.join_laws.specs.Pairs.{explored}
use Rattle.join_laws.specs.Joined.{lines_for, ways_at, final_at, pairs, joined}
use Rattle.certificates.specs.Same.{same_text, same_output}
use Rattle.certificates.specs.Points.{same_point, goes_on, ends_same}
use Rattle.certificates.specs.Certificates.{listed, all_pass, closed_at, certified}
use Rattle.certificates.specs.Earliest.{same_at, same_below, same_before, differs_at}
use Rattle.specimens.specs.Bytes.{bytes}
use Rattle.specimens.specs.Claims.{Means, all_faultless, tested, all_tested}
use Rattle.specimens.specs.Cases.{byte_claims, mark_claims, all_hold}
use Rattle.specimens.specs.Specimens.{Specimens}
use Rattle.specimens.proofs.Claims.{all_claimed}

pub all_hold_lem : all_hold ≡ true
unfolding all_hold all_tested tested every machine_of run lag bit bits_of lines_of ways explored lines_for ways_at final_at pairs joined same_text same_output same_point goes_on ends_same listed all_pass closed_at all_faultless certified same_at same_below same_before differs_at
all_hold_lem = refl

byte_claims_lem : AllByRecursion (Means bytes) byte_claims
unfolding all_hold
byte_claims_lem = all_claimed bytes (range-laws.lawful 256) byte_claims (and_parts (all_tested bytes byte_claims) (all_tested marks mark_claims) all_hold_lem).0

mark_claims_lem : AllByRecursion (Means marks) mark_claims
unfolding all_hold
mark_claims_lem = all_claimed marks mark-laws.lawful mark_claims (and_parts (all_tested bytes byte_claims) (all_tested marks mark_claims) all_hold_lem).1

-- each claim under its name
named : AllByRecursion (Means bytes) byte_claims → AllByRecursion (Means marks) mark_claims → Specimens
named (a, (b, (c, (d, (e, (f, (g, (h, (i, (j, (k, _))))))))))) (n, (l, _)) = record {
  bytes_sound = k;
  marks_sound = l;
  escapes = a;
  escape_copy = b;
  escape_twice = c;
  lower_twice = d;
  late_same = e;
  constant_copy = f;
  second_visit = g;
  final_output = h;
  turned_back = n;
  moved_sound = i.0;
  moved_too_far = j;
  fault_number = refl;
  fault_cause = refl;
}

pub specimens : Specimens
specimens = named byte_claims_lem mark_claims_lem
