-- A request that writes to endpoint 0, with its bytes (9.3).
use Rattle.std.specs.Prelude.{◌≡◌, ℕ, List, length}
use Rattle.usb_request.specs.{IsToDevice, Setup}

pub record Write : Type 0 where
  pub setup : Setup
  pub bytes : List ℕ

-- it goes to the device, and wLength is the number of its bytes
abbrev pub IsWrite : Write → Type 0
IsWrite write = IsToDevice write.setup × (write.setup.length ≡ length write.bytes)
