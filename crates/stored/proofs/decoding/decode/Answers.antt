use Rattle.std.proofs.Common.{◌<◌, cond, is_ok, Err, Result, sym, refl, ap, ◌∙◌, arith}
use Rattle.std.proofs.lemmas.Result.{err_from_is_err_and}
use Rattle.holdings.specs.Memory.{memory_of}
use Rattle.stored_laws.specs.declared.StoredFault.{StoredFault}
use Rattle.stored_laws.specs.Shelved.{room_for, shelved, decoded, decoded_memory}
use Rattle.stored.specs.Bodies.{tables_of_file}
use Rattle.stored.proofs.Decodes.{read_whole, read_parsed, head_is, decoded_tables, decoded_fits}
use Rattle.stored_laws.proofs.Rounds.{file_again}
use Rattle.std.proofs.ByRecursion.{All-from_get_or}
use Rattle.stored.proofs.decoding.decode.Goals as goal

pub returns-in_err-check_room : goal.returns-in_err-check_room
returns-in_err-check_room g c =
    let guard = g.A.Guard.GuardRecord.code in
    let term = g.A.Term.Record.code in
    let k = g.A.Stored.number in
    let file = c.args.file.now in
    let x = c.in_ok-reader.reader.file.now in
    let M = memory_of c.args.shelf.now in
    let e = c.in_ok-reader.ensures.file in
    let five = c.in_ok-reader.ensures.width refl in
    let t = c.totals-head.ensures in
    let head = head_is guard term five x (read_whole guard term k file x e) c.totals-head.result t.holdings t.states t.rules t.outputs in
    let p = err_from_is_err_and c.from_residual-in_err-check_room.result c.from_residual-in_err-check_room.ensures.1 in
    let room = sym (ap (room_for M) head) ∙ sym c.check_room.ensures ∙ c.in_err-check_room.was in
    let means = read_parsed guard term k file x e in
    record {
      answer = p.1 ∙ ap Err p.2 ∙ sym (ap (decoded M) means ∙ room);
      memory = sym (ap (decoded_memory M) means ∙ ap (λ (r : Result Unit StoredFault). cond (is_ok r) (shelved M (tables_of_file guard term x)) M) room);
      tables = λ Fs r. absurd (grind arith);
      fits = λ r. absurd (grind arith);
      rewritten = λ Fs r. absurd (grind arith);
      keeps_on_refusal = λ f r. refl;
    }

pub append_all-requires : goal.append_all-requires
append_all-requires g c =
    let guard = g.A.Guard.GuardRecord.code in
    let term = g.A.Term.Record.code in
    let k = g.A.Stored.number in
    let file = c.args.file.now in
    let x = c.in_ok-reader.reader.file.now in
    let M = memory_of c.args.shelf.now in
    let e = c.in_ok-reader.ensures.file in
    let five = c.in_ok-reader.ensures.width refl in
    let t = c.totals-head.ensures in
    let whole = read_whole guard term k file x e in
    let head = head_is guard term five x whole c.totals-head.result t.holdings t.states t.rules t.outputs in
    record {
      file = whole;
      room = sym (ap (room_for M) head) ∙ sym c.check_room.ensures ∙ c.in_ok-check_room.was;
      five = five;
    }

pub returns : goal.returns
returns g c =
    let guard = g.A.Guard.GuardRecord.code in
    let term = g.A.Term.Record.code in
    let k = g.A.Stored.number in
    let file = c.args.file.now in
    let x = c.in_ok-reader.reader.file.now in
    let M = memory_of c.args.shelf.now in
    let e = c.in_ok-reader.ensures.file in
    let five = c.in_ok-reader.ensures.width refl in
    let t = c.totals-head.ensures in
    let whole = read_whole guard term k file x e in
    let head = head_is guard term five x whole c.totals-head.result t.holdings t.states t.rules t.outputs in
    let room = sym (ap (room_for M) head) ∙ sym c.check_room.ensures ∙ c.in_ok-check_room.was in
    let means = read_parsed guard term k file x e in
    let bytes = All-from_get_or (λ b. b < 256) file 0 (λ i h. (c.type_inv.file i).fits) in
    let laws = g.A.Guard.GuardRecord.laws in
    let wide = g.A.Guard.GuardRecord.wide in
    let free = g.A.Guard.GuardRecord.free in
    let terms = g.A.Term.Record.laws in
    record {
      answer = sym (ap (decoded M) means ∙ room);
      memory = c.append_all.ensures ∙ sym (ap (decoded_memory M) means ∙ ap (λ (r : Result Unit StoredFault). cond (is_ok r) (shelved M (tables_of_file guard term x)) M) room);
      tables = λ Fs r p. decoded_tables guard term laws wide free terms five k file x e M (memory_of c.append_all.new.shelf) room c.append_all.ensures Fs p;
      fits = λ r. decoded_fits guard term laws wide free terms five k file x e M (memory_of c.append_all.new.shelf) room c.append_all.ensures;
      rewritten = λ Fs r p. file_again guard term laws wide free terms five k file Fs bytes p;
      keeps_on_refusal = λ f r. absurd (grind arith);
    }
