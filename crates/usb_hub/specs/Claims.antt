-- Which path claims which address.
use Rattle.std.specs.Prelude.{◌≡◌, ℕ, List, true, Option, None, Some, if◌then◌else◌}
use Rattle.usb_world.specs.{is_way}

abbrev pub AddressMap : Type 0
AddressMap = List ℕ → Option ℕ

-- no claim is at the path, nor below it
abbrev pub Free : AddressMap → List ℕ → Type 0
Free f p = (x : List ℕ) → is_way p x ≡ true → f x ≡ None

-- no path claims the address
abbrev pub Unused : AddressMap → ℕ → Type 0
Unused f n = (x : List ℕ) → f x ≡ Some n → ⊥

-- the claims that are neither at the path nor below it
abbrev pub map_without : AddressMap → List ℕ → AddressMap
map_without f p x = if is_way p x then None else f x
