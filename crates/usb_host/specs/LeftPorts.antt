-- Root ports that are left alone.
use Rattle.std.specs.Prelude.{◌≡◌, ◌⊎◌, ℕ, List, Option, None, replicate, slice_index_or}

-- the status (11.24.2.7) at which each root port is left alone, where it is, by the port's number
abbrev pub LeftStatuses : Type 0
LeftStatuses = List (Option (List ℕ))

-- none is
abbrev pub none_left : LeftStatuses
none_left = replicate 8 None

-- no port is left alone that was not so before, at the same status
pub record LeavesNoMore (old new : LeftStatuses) : Type 0 where
  pub each : (n : ℕ) → (slice_index_or new n None ≡ None)
      ⊎ (slice_index_or new n None ≡ slice_index_or old n None)
