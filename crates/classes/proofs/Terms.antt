-- The terms of a lawful alphabet are terms as the comparison of machines asks for them.
use Rattle.machine.specs.Terms.{TermLaws}
use Rattle.alphabet.specs.Model.{Model, SoundTerm}
use Rattle.alphabet.specs.Laws.{Lawful}

pub term_laws : {G T : Type 0} (m : Model G T) → Lawful m → TermLaws m.size (SoundTerm m) m.value m.constant
term_laws m laws = record {
  symbols = λ t good s c e. (laws.value_at_lem t s c good e, laws.value_inside t s c good e);
  constant_good = laws.constant_sound;
  constant_value = laws.constant_value;
  twice = λ t t' good good' e f s apart c d k k' te te' tf tf' ts ts'. laws.twice t t' e f s c d k k' good good' apart te te' tf tf' ts ts';
}
