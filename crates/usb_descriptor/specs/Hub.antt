-- Hub descriptors (11.23.2.1).
use Rattle.std.specs.Prelude.{ℕ, Bool, List, length, ◌||◌, ◌&&◌, ◌==◌, not, Result, Ok, Err}
use Rattle.std.specs.Prelude.{Option, Some, None, nat_lt, nat_le, if◌then◌else◌, slice_index}
use Rattle.usb_request.specs.{HUB, HUB_LENGTH, word_at}
use Rattle.usb_descriptor.specs.declared.fault.DescriptorFault.{DescriptorFault}
use Rattle.usb_descriptor.specs.declared.fault.DescriptorFault.TheVariants.{Short, WrongType}
use Rattle.usb_descriptor.specs.declared.fault.DescriptorFault.TheVariants.{Length}

-- bNbrPorts
abbrev pub port_count : List ℕ → ℕ
port_count bytes = slice_index bytes 2

-- DeviceRemovable has a bit for each port behind a reserved one: one byte for up to seven ports,
-- two for up to fifteen. PortPwrCtrlMask is as long, so the descriptor has 9 or 11 bytes.
abbrev pub hub_length : ℕ → ℕ
hub_length ports = if nat_lt 7 ports then 11 else HUB_LENGTH

-- the ports that a hub may have: with wide hubs as many as two bytes of status tell
abbrev pub most_ports : Bool → ℕ
most_ports wide = if wide then 15 else 7

-- the bytes if they begin with the descriptor of a hub of as many ports, or the first fault
unfoldable pub hub_spelled : Bool → List ℕ → Result (List ℕ) DescriptorFault
hub_spelled wide bytes =
    if nat_lt (length bytes) HUB_LENGTH then Err Short
    else if not (slice_index bytes 1 == HUB) then Err WrongType
    else if nat_lt (slice_index bytes 0) (hub_length (port_count bytes)) ||
    not (nat_le 1 (port_count bytes) && nat_le (port_count bytes) (most_ports wide)) then Err Length
    else Ok bytes

-- DeviceRemovable
abbrev pub removable_bits : List ℕ → ℕ
removable_bits hub =
    if nat_lt 7 (port_count hub) then word_at hub 7 else slice_index hub 7

-- PortPwrCtrlMask, where it is one of the first nine bytes
abbrev pub power_mask_of : List ℕ → Option ℕ
power_mask_of hub = if nat_lt 7 (port_count hub) then None else Some (slice_index hub 8)
