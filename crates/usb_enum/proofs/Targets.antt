-- Endpoint 0 of a device that was enumerated, and the most attempts of an enumeration.
use Rattle.std.proofs.Common.{◌≡◌, arith, ℕ, ◌≤◌, ◌+◌, ◌*◌, List, Bool, true, is_ok, slice_index}
use Rattle.usb_descriptor.specs.{is_max_packet, device_head_of, device_spelled}
use Rattle.usb_hub.specs.{HubPort, status_bound, order_bound}
use Rattle.usb_transfer.proofs.Interface.{bound_wide}
use Rattle.usb_transfer.specs.{write_bound}
use Rattle.usb_enum.specs.{IsWide, read_bound, enumeration_bound, examined_by, widest_enumeration}
use Rattle.usb_enum.specs.{is_device}

pub head_maximum : (low : Bool) (bytes : List ℕ) → is_ok (device_head_of low bytes) ≡ true
    → is_max_packet low (slice_index bytes 7) ≡ true
unfolding device_head_of
head_maximum low bytes h = grind arith

device_maximum : (low : Bool) (bytes : List ℕ) → is_device low bytes ≡ true
    → is_max_packet low (slice_index bytes 7) ≡ true
unfolding device_spelled
device_maximum low bytes h = grind (arith, head_maximum)

maximum_fits : (low : Bool) (n : ℕ) → is_max_packet low n ≡ true → (8 ≤ n) × (n ≤ 64)
maximum_fits low n h = grind arith

-- bMaxPacketSize0 of a device
pub device_fits : (low : Bool) (bytes : List ℕ) → is_device low bytes ≡ true
    → (8 ≤ slice_index bytes 7) × (slice_index bytes 7 ≤ 64)
device_fits low bytes h = search (device_maximum, maximum_fits)

-- a status, an order and an enumeration take no more
pub status_most : (port : HubPort) → IsWide port → status_bound port ≤ read_bound 4
status_most port wide = grind (arith, bound_wide)

pub order_most : (port : HubPort) → order_bound port ≤ write_bound
order_most port = grind arith

pub enumeration_most : (port : HubPort) → IsWide port → enumeration_bound port ≤ widest_enumeration
enumeration_most port wide = grind (arith, bound_wide)

-- where no text says more
pub examined_most : (port : HubPort) (most : ℕ) → IsWide port
    → examined_by port most + order_bound port ≤ 250000 + 100 * most
examined_most port most wide = grind (arith, bound_wide)
