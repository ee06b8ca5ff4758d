-- What a driver looks for in a configuration (9.6.5, 9.6.6).
use Rattle.std.specs.Prelude.{ℕ, List, [], ◌∷◌, Bool, true, false, ◌==◌, ◌&&◌, nat_le, Option, None}
use Rattle.std.specs.Prelude.{Some, if◌then◌else◌, slice_index}
use Rattle.std.specs.Option.{option_or}
use Rattle.usb_request.specs.{DIRECTION_IN, is_endpoint_address}
use Rattle.usb_descriptor.specs.{EndpointKind, TransferType, endpoint_address, items_of}
use Rattle.usb_descriptor.specs.{max_packet_size, transfer_of, Interface, Endpoint, Other}
use Rattle.usb_descriptor.specs.declared.item.Item.{Item}
use Rattle.usb_descriptor.specs.declared.item.TransferType.TheVariants as moves
use Rattle.usb_descriptor.specs.declared.usable.EndpointKind.TheVariants.{Bulk, Interrupt}
use Rattle.usb_enum.specs.{configuration_of}
use Rattle.usb_host.specs.{KnownDevice}
use Rattle.usb_class_drivers.specs.declared.found.End.{End}
use Rattle.usb_class_drivers.specs.declared.found.Interface.{Interface as AnInterface}
use Rattle.usb_class_drivers.specs.declared.found.Kind.{Kind}

-- an interface of the kind, in its setting 0
abbrev pub is_of_kind : Kind → List ℕ → Bool
is_of_kind kind interface =
    slice_index interface 5 == kind.«class» && slice_index interface 6 == kind.subclass &&
    slice_index interface 7 == kind.protocol && slice_index interface 3 == 0

abbrev pub moves_as : EndpointKind → TransferType → Bool
moves_as Bulk moves.Bulk = true
moves_as Interrupt moves.Interrupt = true
moves_as _ _ = false

-- the most bytes of a packet, if a pipe can have it
abbrev pub packet_size_of : ℕ → Option ℕ
packet_size_of bytes = if nat_le 1 bytes && nat_le bytes 64 then Some bytes else None

abbrev pub end_with : ℕ → Option ℕ → Option End
end_with address None = None
end_with address (Some most) =
    if is_endpoint_address address then Some (record { address = address; most = most }) else None

-- an endpoint that moves data so
abbrev pub end_of : EndpointKind → List ℕ → Option End
end_of transfer endpoint =
    if moves_as transfer (transfer_of endpoint)
    then end_with (endpoint_address endpoint) (packet_size_of (max_packet_size endpoint)) else None

-- of each direction the first one counts
abbrev pub with_end : Option End → AnInterface → AnInterface
with_end None found = found
with_end (Some end) found =
    if nat_le DIRECTION_IN end.address then record found { into = option_or found.into (Some end) }
    else record found { out = option_or found.out (Some end) }

abbrev pub opened : Kind → List ℕ → Option AnInterface
opened kind interface =
    if is_of_kind kind interface
    then Some (record { number = slice_index interface 2; into = None; out = None }) else None

-- the first interface of the kind, with those of its endpoints that move data so; its endpoints
-- are those up to the next interface
unfoldable pub found_from : Kind → Option AnInterface → List Item → Option AnInterface
found_from kind found [] = found
found_from kind None (Interface bytes ∷ rest) = found_from kind (opened kind bytes) rest
found_from kind (Some found) (Interface bytes ∷ rest) = Some found
found_from kind None (Endpoint bytes ∷ rest) = found_from kind None rest
found_from kind (Some found) (Endpoint bytes ∷ rest) =
    found_from kind (Some (with_end (end_of kind.transfer bytes) found)) rest
found_from kind found (Other bytes ∷ rest) = found_from kind found rest

-- that of the device that the host lists
abbrev pub interface_at : Kind → Option KnownDevice → Option AnInterface
interface_at kind None = None
interface_at kind (Some device) =
    found_from kind None (items_of (configuration_of device.accepted))
