use Rattle.std.proofs.Common.{◌≡◌, ◌*◌, ◌≤◌, take}
use Rattle.holdings.specs.Memory.{states_of_lem, rules_of, outputs_of_lem}
use Rattle.codec_laws.specs.Numbers.{at}
use Rattle.stored_laws.specs.Format.{contents}
use Rattle.stored.proofs.decoding.totals.Given as goal

abbrev pub invariant-loop-body : goal.invariant-loop-body
invariant-loop-body l =
    let file = l.reader.file.now in
    let n = l.head.holdings in
    let es = take n (contents file) in
    record {
      same : l.body-iterator.reader.file.now ≡ file;
      place : l.body-iterator.given ≡ n;
      within : n ≤ at file 1;
      states : l.head.states ≡ states_of_lem es;
      rules : l.head.rules ≡ rules_of es;
      outputs : l.head.outputs ≡ outputs_of_lem es;
      few_states : l.head.states ≤ 65535 * n;
      few_rules : l.head.rules ≤ 65535 * n;
      few_outputs : l.head.outputs ≤ 65535 * n;
    }
