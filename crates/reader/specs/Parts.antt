-- Where the bodies of a file stand, and their three parts.
use Rattle.std.specs.Prelude.{ℕ, ◌+◌, ◌*◌, Bool, cond, ◌&&◌, List, length, take, drop, Some, None, sum_by, Option, ◌==◌, nat_le, nat_lt, slice_index_or}
use Rattle.holdings.specs.declared.memory.Entry.{Entry}
use Rattle.codec_laws.specs.Numbers.{at}
use Rattle.stored_laws.specs.Format.{to_rules, to_outputs_lem, body_size, contents, bodies_at, file_size}

-- the file has at most 16 bodies, and is as long as its contents say
abbrev pub whole : List ℕ → Bool
whole file = nat_le 2 (length file) && (nat_le (at file 1) 16 && (nat_le (bodies_at file) (length file) && file_size file == length file))

-- how many bodies are handed out: all that a whole file has, and none of another
abbrev pub number_of : List ℕ → ℕ
number_of file = cond (whole file) (at file 1) 0

-- the counts of the body behind i others
abbrev pub counts_at_lem : List ℕ → ℕ → Entry
counts_at_lem file i = slice_index_or (contents file) i (record { states = 0; rules = 0; outputs = 0 })

-- where the body behind i others begins
abbrev pub body_at : List ℕ → ℕ → ℕ
body_at file i = bodies_at file + sum_by body_size (take i (contents file))

-- bytes of a file, with their place
pub record Part : Type 0 where
  pub place : ℕ
  pub bytes : List ℕ

-- a body: its counts and its three parts
pub record Parts : Type 0 where
  pub counts : Entry
  pub states : Part
  pub rules : Part
  pub outputs : Part

-- n bytes of a file from a place on
abbrev pub part_at : List ℕ → ℕ → ℕ → Part
part_at file p n = record { place = p; bytes = take n (drop p file) }

-- the body with these counts that begins at the place p
abbrev pub parts_at : List ℕ → ℕ → Entry → Parts
parts_at file p e = record {
  counts = e;
  states = part_at file p (e.states * 3);
  rules = part_at file (p + to_rules e) (e.rules * 14);
  outputs = part_at file (p + to_outputs_lem e) (e.outputs * 5);
}

-- the body behind i others, if the file is whole and has so many
abbrev pub parts_of : List ℕ → ℕ → Option Parts
parts_of file i = cond (whole file && nat_lt i (at file 1)) (Some (parts_at file (body_at file i) (counts_at_lem file i))) None
