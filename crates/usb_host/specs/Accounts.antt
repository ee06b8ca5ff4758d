-- The addresses that are taken, and those of the devices that are known.
use Rattle.std.specs.Prelude.{◌≡◌, ℕ, if◌then◌else◌}
use Rattle.std.specs.List.{count_by}
use Rattle.std.specs.FinSet as set
use Rattle.usb_port.specs.{Addresses}
use Rattle.usb_table.specs.{Entries, has_address}

-- one entry has each address that is taken, and none has any other
pub record Accounts (entries : Entries) (addresses : Addresses) : Type 0 where
  pub each : (address : ℕ) → count_by (λ e. has_address address e.1) entries
      ≡ (if set.contains addresses address then 1 else 0)
