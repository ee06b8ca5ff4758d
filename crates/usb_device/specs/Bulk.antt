-- The endpoints of a device besides endpoint 0: which ones there are, their toggles and their halts
-- (5.8, 8.6, 11.12).
use Rattle.std.specs.Prelude.{ℕ, ◌+◌, ◌-◌, ◌*◌, ◌/◌, ◌%◌, ◌==◌, nat_lt, nat_le, min}
use Rattle.std.specs.Prelude.{if◌then◌else◌, ◌||◌, ◌&&◌}
use Rattle.std.specs.Prelude.{Bool, true, false, List, [], ◌∷◌, length, take, slice_get, not}
use Rattle.std.specs.Prelude.{Option, None, Some, is_some}
use Rattle.usb_packet.specs.{other, Zero}
use Rattle.usb_request.specs.{DIRECTION_IN}
use Rattle.usb_descriptor.specs.{bulk_out_of, bulk_in_of, configuration_value, total_length}
use Rattle.usb_descriptor.specs.{usable_under, EndpointTable, UsableEndpoint, belongs_to, end_at}
use Rattle.usb_descriptor.specs.{with_setting, status_endpoint_of}
use Rattle.usb_device.specs.declared.bulk.EndpointState.{EndpointState}
use Rattle.usb_device.specs.declared.bulk.ServedEndpoint.{ServedEndpoint}
use Rattle.usb_device.specs.declared.bulk.ServedEndpoint.TheVariants.{BulkOut, BulkIn, Changes}
use Rattle.usb_device.specs.declared.request.Registers.{Registers}
use Rattle.usb_port.specs.{PortState, has_change}
use Rattle.usb_device.specs.DeviceSpecs.{Spec}

-- an endpoint as a configuration leaves it
abbrev pub rested : EndpointState
rested = record { toggle = Zero; halted = false }

-- after a packet that moved
abbrev pub turned : EndpointState → EndpointState
turned state = record state { toggle = other state.toggle }

abbrev pub halted : EndpointState → EndpointState
halted state = record state { halted = true }

-- how many packets are still to be taken until the halt, after one more
abbrev pub count_down : Option ℕ → Option ℕ
count_down None = None
count_down (Some n) = if nat_le n 1 then None else Some (n - 1)

-- the halt comes with the next packet
abbrev pub is_last : Option ℕ → Bool
is_last None = false
is_last (Some n) = n == 1

-- the text of a configuration has this value (9.6.3)
abbrev pub has_value : ℕ → List ℕ → Bool
has_value value text = nat_lt 5 (length text) && configuration_value text == value

-- the first text of the configuration
abbrev pub text_with : ℕ → List (List ℕ) → List ℕ
text_with value [] = []
text_with value (text ∷ texts) = if has_value value text then text else text_with value texts

-- wTotalLength; 0 where there is no fourth byte
abbrev pub total_of : List ℕ → ℕ
total_of text = if nat_lt (length text) 4 then 0 else total_length text

abbrev pub bulk_in : Bool → List ℕ → Option (ℕ × ℕ)
bulk_in true text = bulk_in_of text
bulk_in false text = bulk_out_of text

-- the text of the configuration, as long as it says and is
abbrev pub text_of : Spec → Registers → List ℕ
text_of s g =
    let text = text_with g.configuration s.configs in
    take (min (total_of text) (length text)) text

-- number and maximum of the first bulk endpoint of a direction, where each interface has setting 0;
-- a device of low speed or without a configuration has none
abbrev pub bulk_at : Spec → Registers → Bool → Option (ℕ × ℕ)
bulk_at s g is_in =
    if s.low || g.configuration == 0 then None else bulk_in is_in (text_of s g)

-- the endpoint with this direction and this number, if the configuration has a usable one under the
-- settings of its interfaces
abbrev pub served_at : Spec → Registers → Bool → ℕ → Option UsableEndpoint
served_at s g is_in e =
    if g.configuration == 0 then None else usable_under g.settings s.low is_in e (text_of s g)

-- an interface has another setting
abbrev pub with_interface : ℕ → ℕ → Registers → Registers
with_interface interface setting g =
    record g { settings = with_setting interface setting g.settings }

-- the interface has the endpoint before or after that
abbrev pub is_of_setting : Spec → Registers → ℕ → ℕ → Bool → ℕ → Bool
is_of_setting s g interface setting is_in e =
    belongs_to interface (served_at s g is_in e)
    || belongs_to interface (served_at s (with_interface interface setting g) is_in e)

-- so it is of two tables
abbrev pub is_of_either : ℕ → EndpointTable → EndpointTable → Bool → ℕ → Bool
is_of_either interface before after is_in e =
    belongs_to interface (end_at before is_in e) || belongs_to interface (end_at after is_in e)

-- a configured hub tells which of its ports changed (11.12.1)
abbrev pub tells_changes : Spec → Registers → Bool
tells_changes s g = is_some s.hub && not (g.configuration == 0)

-- the number of an endpoint that is picked, and 1 where none is
abbrev pub number_or_one : Option (ℕ × ℕ) → ℕ
number_or_one None = 1
number_or_one (Some end) = end.0

-- the number of the endpoint by which it tells them, its status endpoint (11.12.1, 11.23.1)
abbrev pub status_number : Spec → Registers → ℕ
status_number s g = number_or_one (status_endpoint_of true (text_of s g))

-- the endpoint that wIndex names: OUT e is e, IN e is e with the bit of the direction (9.3.4)
abbrev pub served : Spec → Registers → ℕ → Option ServedEndpoint
served s g index =
    if index == DIRECTION_IN + status_number s g && tells_changes s g then Some Changes
    else if is_some (served_at s g false index) then Some (BulkOut index)
    else if nat_le DIRECTION_IN index && is_some (served_at s g true (index - DIRECTION_IN))
    then Some (BulkIn (index - DIRECTION_IN))
    else None

-- an endpoint has this number
abbrev pub is_numbered : ℕ → Option (ℕ × ℕ) → Bool
is_numbered e None = false
is_numbered e (Some end) = end.0 == e

-- the place after another packet of at most max bytes of len
abbrev pub advanced : ℕ → ℕ → ℕ → ℕ
advanced place max len = place + min max (len - place)

-- the weight of a port, where it has a change bit set
abbrev pub changed_bit : List PortState → ℕ → ℕ → ℕ
changed_bit row i weight = elim (slice_get row i) [
  | None ↦ 0
  | Some p ↦
      if has_change p then weight else 0
]

-- of the first seven ports: bit N is set where port N, counted from 1, has a change bit set
abbrev pub low_changes : List PortState → ℕ
low_changes row =
    changed_bit row 0 2 + changed_bit row 1 4 + changed_bit row 2 8 + changed_bit row 3 16 +
    changed_bit row 4 32 + changed_bit row 5 64 + changed_bit row 6 128

-- of the next eight, from bit 0 on
abbrev pub high_changes : List PortState → ℕ
high_changes row =
    changed_bit row 7 1 + changed_bit row 8 2 + changed_bit row 9 4 + changed_bit row 10 8 +
    changed_bit row 11 16 + changed_bit row 12 32 + changed_bit row 13 64 +
    changed_bit row 14 128

-- bit N is set where port N, counted from 1, of a hub of so many ports has a change bit set
-- (11.12.4)
unfoldable pub change_bits : ℕ → List PortState → ℕ
change_bits ports row =
    low_changes row + (if nat_lt 7 ports then 256 * high_changes row else 0)

-- the bytes by which a hub of so many ports tells such bits, the low byte first
abbrev pub change_bytes : ℕ → ℕ → List ℕ
change_bytes ports bits =
    if nat_lt 7 ports then bits % 256 ∷ bits / 256 ∷ [] else bits % 256 ∷ []

-- how many bytes that are: a bit for the hub itself, and one for each port
abbrev pub status_length : ℕ → ℕ
status_length ports = ports / 8 + 1

-- the bits that bytes tell
abbrev pub told_bits : List ℕ → ℕ
told_bits [] = 0
told_bits (b ∷ []) = b
told_bits (b ∷ c ∷ bytes) = b + 256 * c
