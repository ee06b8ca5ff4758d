-- What the program prints for a packet that is written in hexadecimal digits.
use Rattle.std.specs.Prelude.{◌≡◌, ℕ, List, [], ◌∷◌, ◌++◌, Ok, is_err, true}
use Rattle.hex.specs.Hex.{decode_of, encode_upper}
use Rattle.usb_packet.specs.{Packet, Spells, Faults, text_of}
use Rattle.usb_text.specs.declared.line.LineFault.{LineFault}
use Rattle.usb_text.specs.declared.line.LineFault.TheVariants.{BadHex, Packet as PacketRefused}
use Rattle.usb_text.specs.declared.line.LineFault.TheVariants.{Memory}

-- the two lines of a packet: its text, and its bytes in upper-case digits
abbrev pub lines_of : Packet → List ℕ → List ℕ
lines_of packet bytes = text_of packet ++ 10 ∷ [] ++ encode_upper bytes ++ 10 ∷ []

-- the lines are those of the packet that the digits spell
pub record IsLineOf (text line : List ℕ) : Type 0 where
  pub bytes : List ℕ
  pub packet : Packet
  pub digits : decode_of text ≡ Ok bytes
  pub spelled : Spells bytes packet
  pub written : line ≡ lines_of packet bytes

-- what is wrong with a text that has no line
abbrev pub HasFault : List ℕ → LineFault → Type 0
HasFault text BadHex = is_err (decode_of text) ≡ true
HasFault text (PacketRefused fault) = (bytes : List ℕ) × (decode_of text ≡ Ok bytes)
    × Faults bytes fault
HasFault text Memory = Unit {0}
