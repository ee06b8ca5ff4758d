-- The request of an attempt.
use Rattle.std.specs.Prelude.{ℕ, ◌==◌, Bool, true, false, List, length, Option, Some, None}
use Rattle.std.specs.Prelude.{if◌then◌else◌}
use Rattle.usb_packet.specs.{InTok, OutTok, SetupTok, Packet, Token, Sof, Payload, Ack, Nak, Stall}
use Rattle.usb_packet.specs.{Pre, Zero, One}
use Rattle.usb_request.specs.{Setup, setup_of}
use Rattle.usb_world.specs.{Exchange, Mark, Whole, Lost, PreLost, Flipped, Outgoing}

abbrev pub is_setup : Packet → Bool
is_setup (Token SetupTok addr ep) = true
is_setup (Token InTok addr ep) = false
is_setup (Token OutTok addr ep) = false
is_setup (Sof frame) = false
is_setup (Payload toggle bytes) = false
is_setup Ack = false
is_setup Nak = false
is_setup Stall = false
is_setup Pre = false

-- eight bytes are setup data
abbrev pub setup_in : List ℕ → Option Setup
setup_in bytes = if length bytes == 8 then Some (setup_of bytes) else None

-- setup data are a DATA0 (8.5.3)
abbrev pub data_setup : Packet → Option Setup
data_setup (Payload Zero bytes) = setup_in bytes.items
data_setup (Payload One bytes) = None
data_setup (Token kind addr ep) = None
data_setup (Sof frame) = None
data_setup Ack = None
data_setup Nak = None
data_setup Stall = None
data_setup Pre = None

abbrev pub sent_setup : Option Outgoing → Option Setup
sent_setup None = None
sent_setup (Some s) = data_setup s.packet

-- the request that the host sends in an attempt: a SETUP and its data
abbrev pub request_of : Exchange → Option Setup
request_of x = if is_setup x.token.packet then sent_setup x.payload else None

-- no damage hit a packet
abbrev pub is_whole : Mark → Bool
is_whole Whole = true
is_whole Lost = false
is_whole PreLost = false
is_whole (Flipped bit) = false
