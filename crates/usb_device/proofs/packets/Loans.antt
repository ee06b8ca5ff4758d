-- The place of a port, in a row of ports.
use Rattle.std.proofs.Common.{◌≡◌, ℕ, zero, suc, ◌<◌, ◌-◌, [], ◌∷◌, Option, None, Some}
use Rattle.std.proofs.Common.{length, IsSome, refl, arith}
use Rattle.usb_port.specs.{PortState}
use Rattle.usb_device.specs.{Ports, vacant, taken, Plugged, port_of, plugged_at, plugged_in}
use Rattle.usb_device.specs.{row_of, device_there, standing}

pub port_of-standing : (b : PortState) (d : Option Plugged) → port_of (standing b d) ≡ b
port_of-standing b None = refl
port_of-standing b (Some t) = refl

pub device-standing : (b : PortState) (d : Option Plugged) → plugged_in (standing b d) [] ≡ d
device-standing b None = refl
device-standing b (Some t) = refl

-- where a device is, a port is
plugged_at-within : (k : Ports) (i : ℕ) → IsSome (plugged_at k i []) → i < length (row_of k)
unfolding plugged_at row_of
plugged_at-within (vacant b k) (suc i) h = omega (arith, plugged_at-within k i h)
plugged_at-within (taken b s a k) zero h = omega arith
plugged_at-within (taken b s a k) (suc i) h = omega (arith, plugged_at-within k i h)
plugged_at-within k i h = cc

pub child-within : (k : Ports) (n : ℕ) → IsSome (device_there k (n ∷ []))
    → n - 1 < length (row_of k)
child-within k zero h = cc
child-within k (suc i) h = omega (arith, plugged_at-within k i h)
