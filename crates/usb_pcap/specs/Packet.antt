-- Packets and marks at the front of a text, as a trace prints them, with what stands behind them.
use Rattle.std.specs.Prelude.{ℕ, ◌&&◌, nat_lt, List, [], ◌∷◌, Option, Some, None, codes, option_map}
use Rattle.std.specs.Prelude.{if◌then◌else◌}
use Rattle.std.specs.Option.{option_and_then}
use Rattle.usb_packet.specs.{TokenKind, OutTok, InTok, SetupTok, Toggle, Zero, One, Packet, Token}
use Rattle.usb_packet.specs.{Payload, Ack, Nak, Stall}
use Rattle.usb_world.specs.{Mark, Whole, Lost, PreLost, Flipped}
use Rattle.usb_pcap.specs.Text.{bytes_on, decimal_in, if_found, strip}

-- an address and an endpoint, where they fit a token
abbrev pub fitting_token : TokenKind → ℕ → ℕ × List ℕ → Option (Packet × List ℕ)
fitting_token kind addr ep = if nat_lt addr 128 && nat_lt ep.0 16 then Some
    (Token kind addr ep.0, ep.1) else None

-- ADDRESS.ENDPOINT
unfoldable pub token_in : TokenKind → List ℕ → Option (Packet × List ℕ)
token_in kind text =
    option_and_then (λ addr. option_and_then
    (λ rest. option_and_then (fitting_token kind addr.0) (decimal_in rest))
    (strip (codes ".") addr.1))
    (decimal_in text)

abbrev pub data_of : Toggle → List ℕ × List ℕ → Option (Packet × List ℕ)
data_of toggle ([], rest) = None
data_of toggle (byte ∷ bytes, rest) = Some (Payload toggle (record { items = byte ∷ bytes }), rest)

-- digits, or a dash for no data
unfoldable pub data_in : Toggle → List ℕ → Option (Packet × List ℕ)
data_in toggle text =
    if_found (strip (codes "-") text) (λ rest. Some (Payload toggle (record { items = [] }), rest))
    (option_and_then (data_of toggle) (bytes_on [] text))

-- ACK, NAK or STALL
unfoldable pub handshake_in : List ℕ → Option (Packet × List ℕ)
handshake_in text =
    if_found (strip (codes "ACK") text) (λ rest. Some (Ack, rest))
    (if_found (strip (codes "NAK") text) (λ rest. Some (Nak, rest))
    (option_map (λ rest. (Stall, rest)) (strip (codes "STALL") text)))

-- a token, a data packet or a handshake
unfoldable pub packet_in : List ℕ → Option (Packet × List ℕ)
packet_in text =
    if_found (strip (codes "SETUP ") text) (token_in SetupTok)
    (if_found (strip (codes "IN ") text) (token_in InTok)
    (if_found (strip (codes "OUT ") text) (token_in OutTok)
    (if_found (strip (codes "DATA0 ") text) (data_in Zero)
    (if_found (strip (codes "DATA1 ") text) (data_in One) (handshake_in text)))))

-- the number of a flipped bit
unfoldable pub bit_in : List ℕ → Option (Mark × List ℕ)
bit_in text =
    option_and_then (λ bit. if nat_lt bit.0 65536 then option_map (λ rest. (Flipped bit.0, rest))
    (strip (codes "]") bit.1) else None)
    (decimal_in text)

-- the mark behind a packet, none where damage did nothing to it
unfoldable pub packet_mark_in : List ℕ → Option (Mark × List ℕ)
packet_mark_in text =
    if_found (strip (codes " [lost]") text) (λ rest. Some (Lost, rest))
    (if_found (strip (codes " [pre lost]") text) (λ rest. Some (PreLost, rest))
    (if_found (strip (codes " [bit ") text) bit_in (Some (Whole, text))))
