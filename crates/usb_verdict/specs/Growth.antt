-- How a list of plugged devices grows.
use Rattle.std.specs.Prelude.{◌≡◌, ℕ, ◌<◌, List, [], ◌∷◌, ◌++◌, Bool, true, Option, None, Some}
use Rattle.std.specs.Prelude.{is_some, All}
use Rattle.std.specs.List.{list_any}
use Rattle.std.specs.Str.{bytes_eq}
use Rattle.usb_device.specs.{Ports}
use Rattle.usb_judge.specs.declared.plugged.PluggedDevice.{PluggedDevice}
use Rattle.usb_judge.specs.{device_seen, scene_on}
use Rattle.usb_verdict.specs.Once.{ListsOnce}

-- it is the device at its path
abbrev pub IsSeen : Ports → PluggedDevice → Type 0
IsSeen roots d = scene_on roots d.path ≡ Some (device_seen d)

-- one of the devices has the path
abbrev pub has_path : List PluggedDevice → List ℕ → Bool
has_path found path = list_any (λ d. bytes_eq d.path path) found

-- the numbers of a hub's path; none of the root
abbrev pub numbers_on : Option (List ℕ) → List ℕ
numbers_on None = []
numbers_on (Some path) = path

-- it is on one of the ports with numbers below this one: of a hub, or of the root
abbrev pub IsOnPort : List ℕ → ℕ → PluggedDevice → Type 0
IsOnPort above end d = (number : ℕ) × (number < end) × (d.path ≡ above ++ number ∷ [])

-- at most one device was added; it is the one at this path, and one at this path is there
pub record Adds (roots : Ports) (path : List ℕ) (old new : List PluggedDevice) : Type 0 where
  pub more : List PluggedDevice
  pub joined : new ≡ old ++ more
  pub seen : All (IsSeen roots) more
  pub here : All (λ d. d.path ≡ path) more
  pub once : ListsOnce more
  pub there : is_some (scene_on roots path) ≡ true → has_path new path ≡ true

-- the same of the ports of a hub, or of the root, with numbers below this one: each has at most one
pub record AddsPorts (roots : Ports) (above : List ℕ) (end : ℕ) (old new : List PluggedDevice) :
    Type 0 where
  pub more : List PluggedDevice
  pub joined : new ≡ old ++ more
  pub seen : All (IsSeen roots) more
  pub here : All (IsOnPort above end) more
  pub once : ListsOnce more
  pub there : (number : ℕ) → number < end → is_some (scene_on roots (above ++ number ∷ [])) ≡ true
      → has_path new (above ++ number ∷ []) ≡ true
