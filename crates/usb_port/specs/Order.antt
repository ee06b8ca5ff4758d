-- How paths lie to one another: below, parent, and a number that rises with their order.
use Rattle.std.specs.Prelude.{ℕ, zero, suc, ◌+◌, ◌-◌, ◌*◌, ◌^◌, List, [], ◌∷◌, length, take, Option}
use Rattle.std.specs.Prelude.{Some, None, Bool, ◌&&◌, nat_lt, nat_eq, if◌then◌else◌, slice_index}
use Rattle.std.specs.List.{starts_with}
use Rattle.std.specs.declared.cmp.Ordering.{Ordering}
use Rattle.std.specs.Ordering.{nat_cmp}
use Rattle.std.specs.Cmp.Lexicographic.{slice_cmp}

-- the order of paths: number by number, a path before those below it
abbrev pub path_cmp : List ℕ → List ℕ → Ordering
path_cmp = slice_cmp nat_cmp

-- the first path goes on from the other's port
unfoldable pub is_below : List ℕ → List ℕ → Bool
is_below path above = nat_lt (length above) (length path) && starts_with nat_eq path above

-- the port that the port's hub is plugged into; a root port has none
unfoldable pub parent_of : List ℕ → Option (List ℕ)
parent_of path = if nat_lt 1 (length path) then Some (take (length path - 1) path) else None

-- the port's number on its hub
unfoldable pub port_on_hub : List ℕ → ℕ
port_on_hub path = slice_index path (length path - 1)

-- the numbers as digits to the base 16, so many in all
unfoldable pub digits_worth : ℕ → List ℕ → ℕ
digits_worth zero path = 0
digits_worth (suc k) [] = 0
digits_worth (suc k) (n ∷ ns) = n * 16 ^ k + digits_worth k ns

unfoldable pub rank_of : List ℕ → ℕ
rank_of path = digits_worth 7 path
