-- What a run's text tells of the ports that its devices are at.
use Rattle.std.specs.Prelude.{ℕ, zero, suc, ◌-◌, ◌==◌, ◌&&◌, ◌||◌, nat_le, nat_lt, Bool, true}
use Rattle.std.specs.Prelude.{false, List, [], ◌∷◌, ◌++◌, length, replicate, slice_index_or}
use Rattle.std.specs.Prelude.{slice_set, option_and_then, Option, Some, None, if◌then◌else◌}
use Rattle.usb_packet.specs.{InTok, OutTok, SetupTok, Packet, Token, Sof, Payload, Ack, Nak, Stall}
use Rattle.usb_packet.specs.{Pre, Zero, One}
use Rattle.usb_request.specs.{C_PORT_RESET, CLEAR_FEATURE, DEVICE_OUT, GET_STATUS, PORT_IN}
use Rattle.usb_request.specs.{PORT_OUT, PORT_RESET, SET_ADDRESS, SET_FEATURE, Setup}
use Rattle.usb_world.specs.{Exchange, ExchangeAnswer}
use Rattle.usb_world.specs.declared.exchange.ExchangeAnswer.TheVariants as answer
use Rattle.usb_pcap.specs.{TracedAttempt, read_attempt}
use Rattle.usb_explain.specs.Requests.{is_whole, request_of}
use Rattle.usb_explain.specs.declared.known.Known.{Known}
use Rattle.usb_explain.specs.declared.known.Place.{Place}
use Rattle.usb_explain.specs.declared.known.Place.TheVariants as place
use Rattle.usb_explain.specs.declared.known.Reset.{Reset}
use Rattle.usb_explain.specs.declared.known.Reset.TheVariants as reset
use Rattle.usb_explain.specs.declared.known.Roots.{Roots}
use Rattle.usb_explain.specs.declared.known.Roots.TheVariants as roots

-- before the first line
abbrev pub nothing_known : Known
nothing_known =
    record { roots = roots.Unplugged; reset = reset.Idle; places = replicate 128 place.Unknown }

-- ---- the path of an address

-- a port of the hub at a path: 1 to 15, and no path has more than 7 numbers
abbrev pub below_path : List ℕ → ℕ → Option (List ℕ)
below_path hub port = if nat_lt 0 port && nat_lt port 16 && nat_lt (length hub) 7
    then Some (hub ++ port ∷ []) else None

abbrev pub root_path : ℕ → Option (List ℕ)
root_path number = if nat_lt 0 number && nat_lt number 16 then Some (number ∷ []) else None

-- a port below a hub has the hub's path and its own number; over at most so many hubs
unfoldable pub place_path : Place → ℕ → List Place → Option (List ℕ)
place_path place.Unknown depth places = None
place_path (place.Root number) depth places = root_path number
place_path (place.Below hub port) zero places = None
place_path (place.Below hub port) (suc depth) places =
    option_and_then (λ above. below_path above port)
    (place_path (slice_index_or places hub place.Unknown) depth places)

-- the device at address 0 is at the port whose reset by a hub was the last that was asked of any
-- other device, and is over; if the last was no reset, at the only root port that has had a device
abbrev pub fresh_place : Reset → Roots → Place
fresh_place (reset.Done hub port) had = place.Below hub port
fresh_place reset.Idle (roots.One number) = place.Root number
fresh_place reset.Idle roots.Unplugged = place.Unknown
fresh_place reset.Idle roots.Several = place.Unknown
fresh_place (reset.Begun hub port) had = place.Unknown
fresh_place (reset.Cleared hub port) had = place.Unknown

-- any other device is where it was when it was given its address
abbrev pub place_of : ℕ → Known → Place
place_of address k = if address == 0 then fresh_place k.reset k.roots
    else slice_index_or k.places address place.Unknown

abbrev pub path_of : ℕ → Known → Option (List ℕ)
path_of address k = place_path (place_of address k) 7 k.places

-- ---- requests

abbrev pub is_request : ℕ → ℕ → Setup → Bool
is_request kind code s = s.request_type == kind && s.request == code

abbrev pub is_port_reset : Setup → Bool
is_port_reset s = is_request PORT_OUT SET_FEATURE s && s.value == PORT_RESET

abbrev pub is_reset_clearing : Setup → Bool
is_reset_clearing s = is_request PORT_OUT CLEAR_FEATURE s && s.value == C_PORT_RESET

abbrev pub is_port_status : Setup → Bool
is_port_status s = is_request PORT_IN GET_STATUS s

abbrev pub is_set_address : Setup → Bool
is_set_address s = is_request DEVICE_OUT SET_ADDRESS s

-- ---- the reset of a hub's port: PORT_RESET, its status, C_PORT_RESET cleared, and this done

abbrev pub is_reset_of : ℕ → ℕ → Reset → Bool
is_reset_of address index (reset.Begun hub port) = hub == address && port == index
is_reset_of address index (reset.Cleared hub port) = hub == address && port == index
is_reset_of address index reset.Idle = false
is_reset_of address index (reset.Done hub port) = false

abbrev pub still_begun : Reset → Reset
still_begun (reset.Begun hub port) = reset.Begun hub port
still_begun (reset.Cleared hub port) = reset.Idle
still_begun (reset.Done hub port) = reset.Idle
still_begun reset.Idle = reset.Idle

abbrev pub reset_asked : ℕ → Setup → Reset → Reset
reset_asked address s was =
    if is_port_reset s then reset.Begun address s.index
    else if is_reset_clearing s && is_reset_of address s.index was
    then reset.Cleared address s.index
    else if is_port_status s then still_begun was else reset.Idle

abbrev pub reset_answered : ℕ → Reset → Reset
reset_answered address (reset.Cleared hub port) = if hub == address then reset.Done hub port
    else reset.Cleared hub port
reset_answered address (reset.Begun hub port) = reset.Begun hub port
reset_answered address (reset.Done hub port) = reset.Done hub port
reset_answered address reset.Idle = reset.Idle

-- ---- an attempt

abbrev pub address_in : Packet → ℕ
address_in (Token kind addr ep) = addr
address_in (Sof frame) = 128
address_in (Payload toggle bytes) = 128
address_in Ack = 128
address_in Nak = 128
address_in Stall = 128
address_in Pre = 128

-- SET_ADDRESS moves a device; what is asked at address 0 is no part of a reset
abbrev pub next_reset : ℕ → Setup → Reset → Reset
next_reset address s was = if address == 0 then was else reset_asked address s was

abbrev pub with_place : ℕ → Place → Known → Known
with_place address now k = record k { places = slice_set k.places address now }

abbrev pub next_places : ℕ → Setup → Known → List Place
next_places address s k = if is_set_address s then slice_set k.places s.value (place_of address k)
    else k.places

abbrev pub after_request : ℕ → Setup → Known → Known
after_request address s k =
    record k { reset = next_reset address s k.reset; places = next_places address s k }

abbrev pub is_in_control : Packet → Bool
is_in_control (Token InTok addr ep) = ep == 0
is_in_control (Token SetupTok addr ep) = false
is_in_control (Token OutTok addr ep) = false
is_in_control (Sof frame) = false
is_in_control (Payload toggle bytes) = false
is_in_control Ack = false
is_in_control Nak = false
is_in_control Stall = false
is_in_control Pre = false

abbrev pub is_empty_payload : Packet → Bool
is_empty_payload (Payload One bytes) = length bytes.items == 0
is_empty_payload (Payload Zero bytes) = false
is_empty_payload (Token kind addr ep) = false
is_empty_payload (Sof frame) = false
is_empty_payload Ack = false
is_empty_payload Nak = false
is_empty_payload Stall = false
is_empty_payload Pre = false

abbrev pub is_empty_data : ExchangeAnswer → Bool
is_empty_data answer.Nothing = false
is_empty_data (answer.One packet) = is_empty_payload packet
is_empty_data answer.Collision = false

-- an empty DATA1 reaches the host from endpoint 0: a request of no data is done
abbrev pub is_done : Exchange → Bool
is_done x = is_in_control x.token.packet && is_whole x.answer_mark && is_empty_data x.answer

abbrev pub after_answer : ℕ → Exchange → Known → Known
after_answer address x k = if is_done x then record k { reset = reset_answered address k.reset }
    else k

abbrev pub after_asked : ℕ → Option Setup → Exchange → Known → Known
after_asked address (Some s) x k = after_request address s k
after_asked address None x k = after_answer address x k

abbrev pub after_attempt : Exchange → Known → Known
after_attempt x k = after_asked (address_in x.token.packet) (request_of x) x k

-- ---- any other line

-- the root port that a plug names: a path of one number is one digit
abbrev pub plugged_root : List ℕ → Option ℕ
plugged_root (p ∷ l ∷ u ∷ g ∷ space ∷ digit ∷ next ∷ rest) =
    if p == 112 && l == 108 && u == 117 && g == 103 && space == 32 && next == 32
    && nat_le 49 digit && nat_le digit 55 then Some (digit - 48) else None
plugged_root _ = None

abbrev pub with_root : ℕ → Roots → Roots
with_root number roots.Unplugged = roots.One number
with_root number (roots.One first) = if first == number then roots.One first else roots.Several
with_root number roots.Several = roots.Several

-- of the lines of no attempt, that of a plug or an unplug
abbrev pub is_move : List ℕ → Bool
is_move [] = false
is_move (first ∷ rest) = first == 112 || first == 117

abbrev pub after_plug : Option ℕ → List ℕ → Known → Known
after_plug (Some number) line k = record k { roots = with_root number k.roots }
after_plug None line k = if is_move line then k else record k { reset = reset.Idle }

-- a plug or an unplug may come while a port is reset, and no other line
abbrev pub after_told : List ℕ → Known → Known
after_told line k = after_plug (plugged_root line) line k

abbrev pub after_read : Option TracedAttempt → List ℕ → Known → Known
after_read (Some a) line k = after_attempt a.exchange k
after_read None line k = after_told line k

-- what is known after one more line
abbrev pub known_after : List ℕ → Known → Known
known_after line k = after_read (read_attempt line) line k
