-- What a queue holds, and what it answers.
use Rattle.std.specs.Prelude.{◌≡◌, ℕ, ◌<◌, ◌≤◌, cond, List, length, take, drop, Some, None, Ok, Err, Option, Result, nat_lt, slice_index_or}
use Rattle.queue.specs.declared.store.Queue.{Queue}
use Rattle.queue.specs.declared.store.Full.{Full}

-- all entries so far, by number
abbrev pub entries : {T : Type 0} → Queue T → List T
entries q = take q.made q.slots.now

-- the entries that wait, the first of them first
abbrev pub waiting : {T : Type 0} → Queue T → List T
waiting q = drop q.taken (entries q)

-- what the slots hold that have no entry yet
abbrev pub spare : {T : Type 0} → Queue T → List T
spare q = drop q.made q.slots.now

-- how many entries there can be in all
abbrev pub room : {T : Type 0} → Queue T → ℕ
room q = length q.slots.now

-- the number that a new entry gets, if there is a slot for it
abbrev pub numbered : {T : Type 0} → Queue T → Result ℕ Full
numbered q = cond (nat_lt (length (entries q)) (room q)) (Ok (length (entries q))) (Err (record {}))

-- no entry waits, or the first that does is this one, of this number
abbrev pub Next : {T : Type 0} → Queue T → Option (ℕ × T) → Type 0
Next q None = q.taken ≡ length (entries q)
Next {T} q (Some e) = (e.0 ≡ q.taken) × (e.0 < length (entries q)) × ((d : T) → e.1 ≡ slice_index_or (entries q) e.0 d)

-- no entry has the number, or this one has it
abbrev pub At : {T : Type 0} → Queue T → ℕ → Option T → Type 0
At q k None = length (entries q) ≤ k
At {T} q k (Some e) = (k < length (entries q)) × ((d : T) → e ≡ slice_index_or (entries q) k d)
