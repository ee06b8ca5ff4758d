-- The devices that were reported to the caller.
use Rattle.std.specs.Prelude.{◌≡◌, ◌≢◌, ℕ, ◌<◌, ◌≤◌, List, Option, Some, length, slice_get}
use Rattle.std.specs.BTreeMap.{is_at}
use Rattle.std.specs.List.Sorted.{IsStrictlySortedBy}
use Rattle.std.specs.Map.{keys_of, lookup, remove_entry}
use Rattle.std.specs.declared.cmp.Ordering.TheVariants.{Less}
use Rattle.usb_port.specs.{path_cmp}

-- a path and a device's number for each
abbrev pub ReportedDevices : Type 0
ReportedDevices = List (List ℕ × ℕ)

-- the paths rise
abbrev pub ReportedRise : ReportedDevices → Type 0
ReportedRise reported = IsStrictlySortedBy path_cmp (keys_of reported)

-- the number of the device that was reported at a path
abbrev pub reported_at : List ℕ → ReportedDevices → Option ℕ
reported_at path reported = lookup (is_at (path_cmp path)) reported

-- what is before the place has a path before this one, and what is at it has not
pub record IsPlaceOf (path : List ℕ) (place : ℕ) (reported : ReportedDevices) : Type 0 where
  pub inside : place ≤ length reported
  pub before : (i : ℕ) (device : List ℕ × ℕ) → i < place → slice_get reported i ≡ Some device
      → path_cmp device.0 path ≡ Less
  pub after : (device : List ℕ × ℕ) → slice_get reported place ≡ Some device
      → path_cmp device.0 path ≢ Less

-- the device at a place is taken out
pub record TakesReported (place : ℕ) (path : List ℕ) (old new : ReportedDevices) : Type 0 where
  pub number : ℕ
  pub at : slice_get old place ≡ Some (path, number)
  pub rest : new ≡ remove_entry (is_at (path_cmp path)) old
