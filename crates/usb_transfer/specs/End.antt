-- Where a pipe ends.
use Rattle.std.specs.Prelude.{ℕ, ◌<◌, ◌≤◌}
use Rattle.usb_transfer.specs.declared.target.Target.{Target}
use Rattle.usb_transfer.specs.Transactions.{IsTarget}

-- an endpoint of a device, with its own maximum
pub record IsEnd (target : Target) (ep max : ℕ) : Type 0 where
  pub device : IsTarget target
  pub endpoint : ep < 16
  pub least : 1 ≤ max
  pub most : max ≤ 64

-- the device, at the endpoint's maximum
abbrev pub packet_target : Target → ℕ → Target
packet_target target max = record target { max = max }
