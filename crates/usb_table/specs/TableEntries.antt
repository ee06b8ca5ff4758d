-- What is known of the ports: paths with what was found there, by rising path.
use Rattle.std.specs.Prelude.{◌≡◌, ◌⊎◌, not, ℕ, List, Bool, ◌||◌, nat_eq}
use Rattle.std.specs.Cmp.Lexicographic.{pointwise}
use Rattle.std.specs.BTreeMap.{insert_entry}
use Rattle.std.specs.List.{list_any, filter}
use Rattle.std.specs.List.Sorted.{IsStrictlySortedBy}
use Rattle.std.specs.Map.{keys_of}
use Rattle.usb_port.specs.{path_cmp, is_below}
use Rattle.usb_enum.specs.{Finding}

abbrev pub Entries : Type 0
Entries = List (List ℕ × Finding)

abbrev pub is_at_or_below : List ℕ → List ℕ → Bool
is_at_or_below path above = pointwise nat_eq path above || is_below path above

-- some entry is at the path or below it
abbrev pub has_at : List ℕ → Entries → Bool
has_at path entries = list_any (λ e. is_at_or_below e.0 path) entries

-- the entries that stand neither at the path nor below it
abbrev pub without : List ℕ → Entries → Entries
without path entries = filter (λ e. not (is_at_or_below e.0 path)) entries

-- at most one entry is new, at the path
abbrev pub Replaced : List ℕ → Entries → Entries → Type 0
Replaced path old new = (new ≡ old) ⊎ ((finding : Finding)
    × (new ≡ insert_entry path_cmp old path finding))

-- the paths rise
abbrev pub Rises : Entries → Type 0
Rises entries = IsStrictlySortedBy path_cmp (keys_of entries)
