-- What the root ports show, in a record.
use Rattle.std.specs.Prelude.{◌≡◌, ℕ, ◌+◌, List, [], ◌∷◌, length, All, slice_index}
use Rattle.std.specs.List.{flat_map}

-- four bytes for each of seven ports (11.24.2.7)
abbrev pub IsStatus : List ℕ → Type 0
IsStatus status = length status ≡ 4

pub record AreStatuses (statuses : List (List ℕ)) : Type 0 where
  pub seven : length statuses ≡ 7
  pub each : All IsStatus statuses

-- one after the other
abbrev pub statuses_bytes : List (List ℕ) → List ℕ
statuses_bytes statuses = flat_map (λ status. status) statuses

-- of a private function: four bytes from a place on
abbrev pub four_at : List ℕ → ℕ → List ℕ
four_at bytes at = slice_index bytes at ∷ slice_index bytes (at + 1) ∷ slice_index bytes (at + 2)
    ∷ slice_index bytes (at + 3) ∷ []
