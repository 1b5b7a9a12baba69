use Rattle.std.proofs.Common.{refl}
use Rattle.codec_laws.specs.Ranges.{range_code}
use Rattle.codec_laws.specs.Marks.{set_code}
use Rattle.codec_laws.proofs.Laws.{entry_exact, state_exact, rule_exact, range_exact, range_free, range_term_exact}
use Rattle.codec_laws.proofs.MarkLaws.{set_exact, set_free, mark_term_exact}
use Rattle.codec_laws.proofs.records_are_exact.Goals as goal

pub returns : goal.returns
returns c = record {
  entries = entry_exact;
  states = state_exact;
  ranges = range_exact;
  range_terms = range_term_exact;
  sets = set_exact;
  rules = (rule_exact range_code range_exact refl range_free, rule_exact set_code set_exact refl set_free);
  mark_terms = mark_term_exact;
}
