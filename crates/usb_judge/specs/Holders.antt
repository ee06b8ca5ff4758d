-- What is wrong with an attempt, by the devices that hold its address.
use Rattle.std.specs.Prelude.{ℕ, ◌%◌, ◌==◌, ◌&&◌, ◌||◌, not, nat_lt, nat_le, List, [], ◌∷◌}
use Rattle.std.specs.Prelude.{length, filter, option_map, if◌then◌else◌}
use Rattle.std.specs.Prelude.{Bool, false, Option, None, Some, Result, Ok, Err}
use Rattle.std.specs.List.{list_any}
use Rattle.usb_packet.specs.{Speed, Full, Low, LowBelowHub}
use Rattle.usb_descriptor.specs.{DescriptorFault, Interface, Endpoint, Other, config_of, has_number}
use Rattle.usb_descriptor.specs.{items_of, max_packet_0, max_packet_size}
use Rattle.usb_descriptor.specs.declared.item.Item.{Item}
use Rattle.usb_world.specs.{destination_of}
use Rattle.usb_world.specs.declared.types.Attempt.{Attempt}
use Rattle.usb_world.specs.declared.types.Attempt.TheVariants.{Setup, Out, In}
use Rattle.usb_judge.specs.declared.plugged.PluggedDevice.{PluggedDevice}
use Rattle.usb_judge.specs.declared.remark.Remark.{Remark}
use Rattle.usb_judge.specs.declared.remark.Remark.TheVariants as remark

-- Who holds an address

-- packets reach the device, and it holds the address (9.1.2, 9.4.6)
abbrev pub holds : ℕ → PluggedDevice → Bool
holds address d = d.reached && d.address == address

abbrev pub holders : ℕ → List PluggedDevice → List PluggedDevice
holders address plugged = filter (holds address) plugged

-- The speed

-- the device reads packets that go at this speed: one of low speed does, and below a hub only with
-- PRE before each (8.6.5)
abbrev pub reads : PluggedDevice → Speed → Bool
reads d Full = not d.low
reads d Low = d.low && nat_le (length d.path) 1
reads d LowBelowHub = d.low

-- The length

-- the most data of a packet of endpoint 0 (5.5.3, 9.6.1)
abbrev pub control_most : PluggedDevice → ℕ
control_most d =
    let m = max_packet_0 d.descriptor.now in
    if not d.low && (m == 16 || m == 32 || m == 64) then m else 8

-- an OUT endpoint with this number, whose packets may have that many bytes (9.6.6)
abbrev pub is_out_for : ℕ → ℕ → Item → Bool
is_out_for number bytes (Interface interface) = false
is_out_for number bytes (Endpoint endpoint) =
    has_number false number endpoint && nat_le bytes (max_packet_size endpoint % 2048)
is_out_for number bytes (Other other) = false

abbrev pub items_if : Result (List ℕ) DescriptorFault → List Item
items_if (Ok text) = items_of text
items_if (Err fault) = []

-- a configuration has one, in some setting
abbrev pub has_out_for : ℕ → ℕ → List ℕ → Bool
has_out_for number bytes text = list_any (is_out_for number bytes) (items_if (config_of text))

-- the configuration has such an endpoint, and none whose packets may have that many bytes
abbrev pub is_over : ℕ → ℕ → Option (List ℕ) → Bool
is_over number bytes None = false
is_over number bytes (Some text) =
    has_out_for number 0 text && not (has_out_for number bytes text)

-- that many bytes are more than the maximum packet of the endpoint with this number
abbrev pub is_too_long : PluggedDevice → ℕ → ℕ → Bool
is_too_long d number bytes = if number == 0 then nat_lt (control_most d) bytes
    else is_over number bytes (option_map (λ text. text.now) d.configuration)

-- The attempt

-- how many bytes an OUT sends
abbrev pub sent_bytes : Attempt → ℕ
sent_bytes (Setup to bytes) = 0
sent_bytes (Out to toggle bytes) = length bytes.items
sent_bytes (In to) = 0

-- an attempt that one device gets
abbrev pub judged_at : Attempt → PluggedDevice → Option Remark
judged_at a d = if not (reads d (destination_of a).speed) then Some remark.OtherSpeed
    else if is_too_long d (destination_of a).number (sent_bytes a) then Some remark.TooLong
    else None

-- an attempt, by those that hold its address
abbrev pub judged_by : Attempt → List PluggedDevice → Option Remark
judged_by a [] = Some remark.Nobody
judged_by a (d ∷ []) = judged_at a d
judged_by a (d ∷ e ∷ more) = Some remark.TwoDevices

abbrev pub judged : List PluggedDevice → Attempt → Option Remark
judged plugged a = judged_by a (holders (destination_of a).address plugged)

-- A root port

-- it is the path of the root port with this number
abbrev pub is_root : ℕ → List ℕ → Bool
is_root number [] = false
is_root number (n ∷ []) = n == number
is_root number (n ∷ m ∷ path) = false

abbrev pub is_at_root : ℕ → PluggedDevice → Bool
is_at_root number d = is_root number d.path

-- nothing is plugged there
abbrev pub is_empty : List PluggedDevice → ℕ → Bool
is_empty plugged number = not (list_any (is_at_root number) plugged)
