-- The next entry of a kind, by rising path.
use Rattle.std.specs.Prelude.{◌≡◌, ◌≢◌, ⊤, ℕ, List, Bool, true, Option, Some, None}
use Rattle.std.specs.BTreeMap.{is_at}
use Rattle.std.specs.Map.{lookup}
use Rattle.std.specs.declared.cmp.Ordering.TheVariants.{Less}
use Rattle.usb_port.specs.{path_cmp}
use Rattle.usb_enum.specs.{Finding}
use Rattle.usb_table.specs.TableEntries.{Entries}

-- the path comes after the last one, where there is one
abbrev pub ComesAfter : Option (List ℕ) → List ℕ → Type 0
ComesAfter None path = ⊤
ComesAfter (Some last) path = path_cmp last path ≡ Less

-- a finding of the kind stands at the path, which comes after the last one
pub record Stands (kind : Finding → Bool) (last : Option (List ℕ)) (entries : Entries)
    (path : List ℕ) : Type 0 where
  pub finding : Finding
  pub found : lookup (is_at (path_cmp path)) entries ≡ Some finding
  pub fits : kind finding ≡ true
  pub after : ComesAfter last path

-- and at no such path before it
pub record IsNext (kind : Finding → Bool) (last : Option (List ℕ)) (entries : Entries)
    (path : List ℕ) : Type 0 where
  pub stands : Stands kind last entries path
  pub least : (other : List ℕ) → Stands kind last entries other → path_cmp other path ≢ Less

-- there is none
abbrev pub IsLast : (Finding → Bool) → Option (List ℕ) → Entries → Type 0
IsLast kind last entries = (other : List ℕ) → Stands kind last entries other → ⊥
