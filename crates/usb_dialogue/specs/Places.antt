-- A path in a record.
use Rattle.std.specs.Prelude.{ℕ, ◌-◌, List, ◌∷◌, ◌++◌, length, replicate}

-- the numbers of a path in seven bytes, with zeros at the end
abbrev pub padded : List ℕ → List ℕ
padded path = path ++ replicate (7 - length path) 0

-- how many numbers it has, and those
abbrev pub place_bytes : List ℕ → List ℕ
place_bytes path = length path ∷ padded path
