-- Which entries change where a port is handled, over any bus.
use Rattle.std.specs.Prelude.{◌≡◌, ◌⊎◌, ℕ, List, false, true, Some, IsSome, Result}
use Rattle.usb_world.specs.{is_way}
use Rattle.usb_enum.specs.{EnumFault, Lost}
use Rattle.usb_enum.specs.declared.finding.Finding.TheVariants.{Refused}
use Rattle.usb_table.specs.{Entries, finding_at, known_port}
use Rattle.usb_host.specs.Ports.{EndsAs}
use Rattle.usb_host.specs.ToldFaults.{is_final}
use Rattle.usb_host.specs.declared.fault.HostFault.{HostFault}

-- each entry stays that is neither at the path nor below it
abbrev pub EntriesStay : List ℕ → Entries → Entries → Type 0
EntriesStay path old new = (other : List ℕ) → is_way path other ≡ false
    → finding_at other new ≡ finding_at other old

-- a port on the way to a path, or its own, is known
pub record IsOnWay (first path : List ℕ) (entries : Entries) : Type 0 where
  pub known : IsSome (known_port path entries)
  pub above : is_way path first ≡ true

-- what changed is at a hub on the way to a path, or at the path itself, or below that; and unless
-- the host stops, that is listed as lost
pub record DropsNear {A : Type 0} (path : List ℕ) (result : Result A HostFault) (old new : Entries)
    : Type 0 where
  pub on : List ℕ
  pub way : is_way on path ≡ true
  pub rest : EntriesStay on old new
  pub lost : is_final result ≡ false → finding_at on new ≡ Some (Refused Lost)

-- what changed is at the path or below it, or a hub on its way was dropped
abbrev pub ChangesNear : {A : Type 0} → List ℕ → Result A HostFault → Entries → Entries → Type 0
ChangesNear path result old new = EntriesStay path old new ⊎ DropsNear path result old new

-- how the handling of a port ends
pub record PortEnds (path : List ℕ) (served : Result (Unit {0}) EnumFault)
    (result : Result (Unit {0}) HostFault) (old new : Entries) : Type 0 where
  pub ends : EndsAs served result
  pub near : ChangesNear path result old new
