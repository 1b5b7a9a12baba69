use Rattle.std.proofs.Common.{◌+◌, set, sym, refl, ap}
use Rattle.holdings.specs.declared.memory.Entry.{Entry}
use Rattle.holdings.specs.Memory.{memory_of}
use Rattle.holdings.specs.Append.{appended}
use Rattle.stored_laws.proofs.Shelves.{same_head, same_memory}
use Rattle.stored.specs.Bodies.{body_table}
use Rattle.stored.proofs.Handed.{body_counts}
use Rattle.stored.proofs.decoding.append_body.Goals as goal

pub returns : goal.returns
returns g c =
    let M = memory_of c.args.shelf.now in
    let F = body_table g.A.Guard.GuardRecord.code g.A.Term.Record.code c.args.body in
    let counts = sym (body_counts g.A.Guard.GuardRecord.code g.A.Term.Record.code c.args.body) in
    let head = same_head _ (appended M F).head refl (ap (λ (e : Entry). M.head.states + e.states) counts) (ap (λ (e : Entry). M.head.rules + e.rules) counts) (ap (λ (e : Entry). M.head.outputs + e.outputs) counts) in
    same_memory _ (appended M F) head (ap (set M.ledger M.head.holdings) counts) c.fill.ensures c.fill-2.ensures c.fill-3.ensures
