-- What the host has to say in an attempt of which nothing is damaged, and what became of a device.
use Rattle.std.specs.Prelude.{ℕ, nat_eq, ◌&&◌, Bool, Some}
use Rattle.std.specs.Option.{option_eq}
use Rattle.usb_device.specs.{HostSide, DeviceSide, keeps_others}
use Rattle.usb_world.specs.PlainAttempts.{Attempt}

abbrev pub host_side : Attempt → HostSide
host_side a =
    record { low = a.low; pre = a.pre; kind = a.kind; addr = a.addr; ep = a.ep; max = a.max }

-- the device is at that address still, and what it asked of its ports leaves the same devices
-- reached,
-- but for those on its port of a number and below
abbrev pub keeps_address : ℕ → DeviceSide → ℕ → Bool
keeps_address port side n = keeps_others port side.effect && option_eq nat_eq side.address (Some n)
