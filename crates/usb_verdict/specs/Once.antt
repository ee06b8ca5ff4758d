-- A list that has each device once.
use Rattle.std.specs.Prelude.{◌≡◌, ℕ, List, Some, slice_get}
use Rattle.usb_judge.specs.declared.plugged.PluggedDevice.{PluggedDevice}

-- no two places of the list have the same path
abbrev pub ListsOnce : List PluggedDevice → Type 0
ListsOnce all = (i j : ℕ) (a b : PluggedDevice) → slice_get all i ≡ Some a
    → slice_get all j ≡ Some b → a.path ≡ b.path → i ≡ j
