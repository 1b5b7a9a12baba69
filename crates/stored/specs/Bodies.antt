-- The table that a body means.
use Rattle.std.specs.Prelude.{◌≡◌, ℕ, ◌*◌, List, length}
use Rattle.table.specs.Table.{Table}
use Rattle.stored_laws.specs.Format.{contents, bodies_at, tables_in}
use Rattle.reader.specs.declared.body.Body.{Body}
use Rattle.codec_laws.specs.Code.{Code}
use Rattle.codec_laws.specs.Entries.{state_code, rule_code}
use Rattle.codec_laws.specs.Lists.{records}

abbrev pub body_table : {G T : Type 0} → Code G → Code T → Body → Table G T
body_table guard term b = record {
  states = records state_code b.counts.states b.states.bytes.now;
  rules = records (rule_code guard) b.counts.rules b.rules.bytes.now;
  outputs = records term b.counts.outputs b.outputs.bytes.now;
}

-- the parts are as long as the counts ask for
abbrev pub Full : Body → Type 0
Full b =
    (length b.states.bytes.now ≡ b.counts.states * 3)
    × (length b.rules.bytes.now ≡ b.counts.rules * 14)
    × (length b.outputs.bytes.now ≡ b.counts.outputs * 5)

-- the tables that a whole file means
abbrev pub tables_of_file : {G T : Type 0} → Code G → Code T → List ℕ → List (Table G T)
tables_of_file guard term file = tables_in guard term file (bodies_at file) (contents file)
