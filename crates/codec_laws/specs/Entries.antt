-- The entries of a ledger, states and rules as bytes.
use Rattle.std.specs.Prelude.{◌&&◌, ◌∷◌, ◌++◌, drop, None, nat_lt}
use Rattle.table.specs.declared.entries.State.{State}
use Rattle.table.specs.declared.entries.Rule.{Rule}
use Rattle.holdings.specs.declared.memory.Entry.{Entry}
use Rattle.codec_laws.specs.Code.{Code}
use Rattle.codec_laws.specs.Numbers.{two, at, two_at}

-- three counts of two bytes each: states, rules, outputs
abbrev pub entry_code : Code Entry
entry_code = record {
  width = 6;
  image = λ e. two e.states ++ (two e.rules ++ two e.outputs);
  meaning = λ bs. record { states = two_at bs 0; rules = two_at bs 2; outputs = two_at bs 4 };
  wrong = λ bs. None;
  fits = λ e. nat_lt e.states 65536 && (nat_lt e.rules 65536 && nat_lt e.outputs 65536);
}

-- the mark in one byte, the number of final outputs in two
abbrev pub state_code : Code State
state_code = record {
  width = 3;
  image = λ s. s.mark ∷ two s.finals;
  meaning = λ bs. record { mark = at bs 0; finals = two_at bs 1 };
  wrong = λ bs. None;
  fits = λ s. nat_lt s.finals 65536;
}

-- state, next state and number of outputs in two bytes each, then the guard in eight
abbrev pub rule_code : {G : Type 0} → Code G → Code (Rule G)
rule_code c = record {
  width = 14;
  image = λ r. two r.state ++ (two r.next ++ (two r.outputs ++ c.image r.guard));
  meaning = λ bs. record { state = two_at bs 0; next = two_at bs 2; outputs = two_at bs 4; guard = c.meaning (drop 6 bs) };
  wrong = λ bs. None;
  fits = λ r. nat_lt r.state 65536 && (nat_lt r.next 65536 && (nat_lt r.outputs 65536 && c.fits r.guard));
}
