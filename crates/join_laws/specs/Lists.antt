-- Lists: what is found first, what is alone, and lists one after another.
use Rattle.std.specs.Prelude.{◌≡◌, Bool, true, cond, List, [], ◌∷◌, ◌++◌, Some, None, Option}

-- the first item that passes
abbrev pub first : {X : Type 0} → (X → Bool) → List X → Option X
first p [] = None
first p (x ∷ xs) = cond (p x) (Some x) (first p xs)

-- at most one item passes
abbrev pub Alone : {X : Type 0} → (X → Bool) → List X → Type 0
Alone p [] = Unit {0}
Alone p (x ∷ xs) = (p x ≡ true → first p xs ≡ None) × Alone p xs

-- the lists that f makes of the items, one after another
abbrev pub gathered : {X Y : Type 0} → (X → List Y) → List X → List Y
gathered f [] = []
gathered f (x ∷ xs) = f x ++ gathered f xs

-- what f makes of what is there, or nothing
abbrev pub on_some : {X Y : Type 0} → Option X → (X → List Y) → List Y
on_some None f = []
on_some (Some x) f = f x
