-- What an endpoint besides endpoint 0 gives, packet by packet, and how it hesitates, as a plan
-- describes it.
use Rattle.std.specs.Prelude.{◌≡◌, ℕ, ◌+◌, ◌==◌, nat_lt, if◌then◌else◌, List, [], ◌∷◌, length, take}
use Rattle.std.specs.Prelude.{drop, slice_get, find, Option, Some, None}
use Rattle.usb_device.specs.declared.endpoint_spec.EndpointData.{EndpointData}
use Rattle.usb_device.specs.declared.endpoint_spec.EndpointData.TheVariants.{Source, Packets}
use Rattle.usb_device.specs.declared.endpoint_spec.EndpointSpec.{EndpointSpec}
use Rattle.usb_device.specs.Bulk.{advanced}

-- the first row of an address
abbrev pub endpoint_row : List EndpointSpec → ℕ → Option EndpointSpec
endpoint_row rows address = find (λ row. row.address == address) rows

-- some bytes, or none
abbrev pub if_some : List ℕ → Option (List ℕ)
if_some [] = None
if_some (b ∷ bytes) = Some (b ∷ bytes)

-- the packet at a place, where packets have at most so many bytes: a place in a source is counted
-- in bytes, and else in packets
abbrev pub packet_in : EndpointData → ℕ → ℕ → Option (List ℕ)
packet_in (Source bytes) most place = if_some (take most (drop place bytes))
packet_in (Packets packets) most place = slice_get packets place

-- the place behind it
abbrev pub place_behind : EndpointData → ℕ → ℕ → ℕ
place_behind (Source bytes) most place = advanced place most (length bytes)
place_behind (Packets packets) most place = if nat_lt place (length packets) then place + 1
    else place

-- these packets come one after another from a place on, and this is the place behind them
abbrev pub GivesOn : EndpointData → ℕ → ℕ → List (List ℕ) → ℕ → Type 0
GivesOn content most place [] behind = behind ≡ place
GivesOn content most place (bytes ∷ packets) behind = (packet_in content most place ≡ Some bytes)
    × GivesOn content most (place_behind content most place) packets behind
