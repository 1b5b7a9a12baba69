use Rattle.std.proofs.Common.{sym, arith}
use Rattle.table.specs.Table.{table_of}
use Rattle.table.proofs.Soundness.{sound_from_checked}
use Rattle.classes.proofs.Ends.{begins, end_within, end_sound, ends}
use Rattle.classes.proofs.sides.Standing.rule_end.Goals as goal

pub offset_bounds-rules-rule : goal.offset_bounds-rules-rule
offset_bounds-rules-rule g c = omega (arith, end_within g.A.Alphabet.model (table_of c.args.self.now.filter.now.draft) c.args.self.now.state c.args.symbol (sound_from_checked g.A.Alphabet.model g.A.Alphabet.laws (table_of c.args.self.now.filter.now.draft) c.args.self.now.filter.now.sound) c.in-Some.rule c.in-Some.ensures)

pub bounds-rules-rule : goal.bounds-rules-rule
bounds-rules-rule g c = end_within g.A.Alphabet.model (table_of c.args.self.now.filter.now.draft) c.args.self.now.state c.args.symbol (sound_from_checked g.A.Alphabet.model g.A.Alphabet.laws (table_of c.args.self.now.filter.now.draft) c.args.self.now.filter.now.sound) c.in-Some.rule c.in-Some.ensures

pub bounds-rules-rule-in-Some : goal.bounds-rules-rule-in-Some
bounds-rules-rule-in-Some g c = end_within g.A.Alphabet.model (table_of c.args.self.now.filter.now.draft) c.args.self.now.state c.args.symbol (sound_from_checked g.A.Alphabet.model g.A.Alphabet.laws (table_of c.args.self.now.filter.now.draft) c.args.self.now.filter.now.sound) c.in-Some.rule c.in-Some.ensures

pub first_outside-requires : goal.first_outside-requires
first_outside-requires g c =
    let sound = end_sound g.A.Alphabet.model (table_of c.args.self.now.filter.now.draft) c.args.self.now.state c.args.symbol (sound_from_checked g.A.Alphabet.model g.A.Alphabet.laws (table_of c.args.self.now.filter.now.draft) c.args.self.now.filter.now.sound) c.in-Some.rule c.in-Some.ensures c.index-rules-rule.result c.index-rules-rule.is in
    record { sound = rw (sym c.index-rules-rule.is) sound }

pub returns-in-Some : goal.returns-in-Some
returns-in-Some g c =
    ends g.A.Alphabet.model (table_of c.args.self.now.filter.now.draft) c.args.self.now.state c.args.symbol (sound_from_checked g.A.Alphabet.model g.A.Alphabet.laws (table_of c.args.self.now.filter.now.draft) c.args.self.now.filter.now.sound) c.in-Some.rule c.in-Some.ensures c.index-rules-rule.result c.index-rules-rule.is c.first_outside.result (rw (sym c.index-rules-rule.is) at c.first_outside.ensures)

pub returns-in-None : goal.returns-in-None
returns-in-None g c =
    begins g.A.Alphabet.model (table_of c.args.self.now.filter.now.draft) c.args.self.now.state c.args.symbol c.in-None.ensures c.first_held.result c.first_held.ensures
