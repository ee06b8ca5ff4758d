-- How many bytes a host keeps of the configurations of devices (9.6.3).
use Rattle.std.specs.Prelude.{◌≡◌, ◌≤◌, ◌*◌, ℕ, List, Some}
use Rattle.std.specs.List.{sum_by}
use Rattle.usb_enum.specs.{Finding, HostOptions, texts_length}
use Rattle.usb_enum.specs.declared.finding.Finding.TheVariants.{Device, Refused}
use Rattle.usb_table.specs.{Entries, finding_at}

-- of what was found at a port: all those of an accepted device, and none of a refused one
abbrev pub kept_bytes : Finding → ℕ
kept_bytes (Device device) = texts_length device.configs
kept_bytes (Refused cause) = 0

-- so it is of all entries
abbrev pub kept_in : Entries → ℕ
kept_in entries = sum_by (λ e. kept_bytes e.1) entries

-- a host that takes so many bytes of a device keeps no more of any that is listed, and of all of
-- them no more than of 127, one for each address
pub record KeepsFew (options : HostOptions) (entries : Entries) : Type 0 where
  pub each : (most : ℕ) → options.device_bytes ≡ Some most → (path : List ℕ) (finding : Finding)
      → finding_at path entries ≡ Some finding → kept_bytes finding ≤ most
  pub all : (most : ℕ) → options.device_bytes ≡ Some most → kept_in entries ≤ 127 * most
