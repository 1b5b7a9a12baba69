-- What a reader and the bodies that it hands out show of a file.
use Rattle.std.specs.Prelude.{◌≡◌, ℕ, ◌+◌, List, Some, None, Ok, Err, Option, Result}
use Rattle.stored_laws.specs.declared.StoredFault.{StoredFault}
use Rattle.reader.specs.declared.body.Reader.{Reader}
use Rattle.reader.specs.declared.body.Body.{Body}
use Rattle.reader.specs.declared.body.Span.{Span}
use Rattle.reader.specs.declared.body.Bodies.{Bodies}
use Rattle.reader.specs.Parts.{Part, Parts, parts_of}

-- the file of a reader, where there is one
abbrev pub file_of : Result Reader StoredFault → Result (List ℕ) StoredFault
file_of (Ok r) = Ok r.file.now
file_of (Err f) = Err f

abbrev pub part_of : Span → Part
part_of s = record { place = s.place; bytes = s.bytes.now }

-- the parts that a body shows
abbrev pub shown : Option Body → Option Parts
shown None = None
shown (Some b) = Some (record { counts = b.counts; states = part_of b.states; rules = part_of b.rules; outputs = part_of b.outputs })

-- how many bodies are handed out after a call that handed out this one
abbrev pub given_after : ℕ → Option Body → ℕ
given_after n None = n
given_after n (Some b) = n + 1

-- the next body of the file is handed out, if there is one
pub record Hands (before : Bodies) (body : Option Body) (after : Bodies) : Type 0 where
  pub is : shown body ≡ parts_of before.reader.file.now before.given
  pub same : after.reader.file.now ≡ before.reader.file.now
  pub next : after.given ≡ given_after before.given body
