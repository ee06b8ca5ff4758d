-- Names that were misspelled.
use Rattle.std.specs.Prelude.{ℕ, ◌<◌, ◌≤◌, nat_lt, nat_eq, ◌||◌, List, length, slice_index, Option}
use Rattle.std.specs.Prelude.{Some, None, if◌then◌else◌}
use Rattle.std.specs.Str.{chars}
use Rattle.strsim.specs.Edits.{levenshtein_row}

-- how many letters have to be put in, taken out or exchanged; 3 where a text is longer than any
-- name
unfoldable pub edits_between : List ℕ → List ℕ → ℕ
edits_between from to =
    if nat_lt 64 (length from) || nat_lt 64 (length to) then 3
    else levenshtein_row nat_eq (chars from) (chars to) (length (chars to))

-- of the edits to each name the ones at this index are at most two, none are fewer, and all before
-- it are more
pub record IsNearestAt (edits : List ℕ) (i : ℕ) : Type 0 where
  pub there : i < length edits
  pub near : slice_index edits i ≤ 2
  pub fewest : (j : ℕ) → j < length edits → slice_index edits i ≤ slice_index edits j
  pub first : (j : ℕ) → j < i → slice_index edits i < slice_index edits j

-- that index, or no name is near
abbrev pub IsNearest : List ℕ → Option ℕ → Type 0
IsNearest edits (Some i) = IsNearestAt edits i
IsNearest edits None = (j : ℕ) → j < length edits → 2 < slice_index edits j
