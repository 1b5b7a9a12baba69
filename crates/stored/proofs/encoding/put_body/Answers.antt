use Rattle.std.proofs.Common.{ap, ◌∙◌, arith}
use Rattle.table.specs.Table.{table_of}
use Rattle.holdings.specs.Append.{over}
use Rattle.codec_laws.specs.Entries.{state_code, rule_code}
use Rattle.codec_laws.specs.Lists.{image_all}
use Rattle.stored.proofs.Encodes.{three_over, states_size, rules_size, body_length}
use Rattle.stored.proofs.encoding.put_body.Goals as goal

pub put-rules-requires : goal.put-rules-requires
put-rules-requires g c =
    let n = body_length g.A.Guard.GuardRecord.code g.A.Term.Record.code g.A.Guard.GuardRecord.laws g.A.Guard.GuardRecord.wide g.A.Guard.GuardRecord.free g.A.Term.Record.laws (table_of c.args.view) in
    record { room = omega arith }

pub put-outputs-requires : goal.put-outputs-requires
put-outputs-requires g c =
    let n = body_length g.A.Guard.GuardRecord.code g.A.Term.Record.code g.A.Guard.GuardRecord.laws g.A.Guard.GuardRecord.wide g.A.Guard.GuardRecord.free g.A.Term.Record.laws (table_of c.args.view) in
    record { room = omega arith }

pub put-requires : goal.put-requires
put-requires g c =
    let n = body_length g.A.Guard.GuardRecord.code g.A.Term.Record.code g.A.Guard.GuardRecord.laws g.A.Guard.GuardRecord.wide g.A.Guard.GuardRecord.free g.A.Term.Record.laws (table_of c.args.view) in
    record { room = omega arith }

pub returns : goal.returns
returns g c =
    let guard = g.A.Guard.GuardRecord.code in
    let term = g.A.Term.Record.code in
    let F = table_of c.args.view in
    let n = body_length guard term g.A.Guard.GuardRecord.laws g.A.Guard.GuardRecord.wide g.A.Guard.GuardRecord.free g.A.Term.Record.laws F in
    let s = states_size guard term g.A.Guard.GuardRecord.laws g.A.Guard.GuardRecord.wide g.A.Guard.GuardRecord.free g.A.Term.Record.laws F in
    let r = rules_size guard term g.A.Guard.GuardRecord.laws g.A.Guard.GuardRecord.wide g.A.Guard.GuardRecord.free g.A.Term.Record.laws F in
    record {
      end = omega arith;
      bytes = c.put.ensures.bytes
          ∙ ap (λ l. over l c.put-outputs.result (image_all term F.outputs)) (c.put-outputs.ensures.bytes ∙ ap (λ l. over l c.put-rules.result (image_all (rule_code guard) F.rules)) c.put-rules.ensures.bytes)
          ∙ three_over c.args.out.now (image_all state_code F.states) (image_all (rule_code guard) F.rules) (image_all term F.outputs) c.args.at c.put-rules.result c.put-outputs.result (omega arith) (omega arith) (omega arith);
    }
