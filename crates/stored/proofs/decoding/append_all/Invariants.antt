use Rattle.std.proofs.Common.{◌≡◌, ◌≤◌, take}
use Rattle.holdings.specs.Memory.{memory_of}
use Rattle.codec_laws.specs.Numbers.{at}
use Rattle.stored_laws.specs.Shelved.{shelved}
use Rattle.stored.specs.Bodies.{tables_of_file}
use Rattle.stored.proofs.decoding.append_all.Given as goal

abbrev pub invariant-loop-body : goal.invariant-loop-body
invariant-loop-body g l =
    let file = l.reader.file.now in
    let i = l.body-iterator.given in
    record {
      same : l.body-iterator.reader.file.now ≡ file;
      within : i ≤ at file 1;
      memory : memory_of l.shelf ≡ shelved (memory_of l.initial.shelf) (take i (tables_of_file g.A.Guard.GuardRecord.code g.A.Term.Record.code file));
    }
