-- A result with its fault changed.
use Rattle.std.specs.Prelude.{Ok, Err, Result}

-- the fault changed by f
abbrev pub map_err : {X E F : Type 0} → (E → F) → Result X E → Result X F
map_err f (Ok x) = Ok x
map_err f (Err e) = Err (f e)

-- the result without its value
abbrev pub dropped : {X E : Type 0} → Result X E → Result Unit E
dropped (Ok x) = Ok tt
dropped (Err e) = Err e
