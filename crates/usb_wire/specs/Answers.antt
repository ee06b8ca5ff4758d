-- What the far end says, and the line of it.
use Rattle.std.specs.Prelude.{◌≡◌, ℕ, ◌+◌, ◌*◌, ◌^◌, ◌<◌, ◌≤◌, List, [], ◌∷◌, ◌++◌, length, codes}
use Rattle.std.specs.Prelude.{decimal}
use Rattle.std.specs.Prelude.{Bool, Some, false, true}
use Rattle.usb_packet.specs.{IsBytes, data_name, hex_text}
use Rattle.usb_port.specs.{IsPath, path_text}
use Rattle.usb_request.specs.{IsToHost, bytes_of, is_endpoint_address, Setup as SetupData}
use Rattle.usb_wire.specs.declared.answer.Answer.{Answer}
use Rattle.usb_wire.specs.declared.answer.Answer.TheVariants.{Roots, Ack, Nak, Stall, Nothing, Data}
use Rattle.usb_wire.specs.declared.answer.Answer.TheVariants.{Done, Show, End, Send, Receive, Clear}
use Rattle.usb_wire.specs.declared.answer.Answer.TheVariants.{ControlIn, ControlOut, Look, News}
use Rattle.usb_wire.specs.declared.answer.Answer.TheVariants.{ClearOf, Poll, ReceiveFrom, SendTo}
use Rattle.usb_wire.specs.declared.answer.Answer.TheVariants.{Interface, RootsAndRows}
use Rattle.usb_wire.specs.declared.answer.Said.{Said}
use Rattle.usb_wire.specs.declared.answer.Said.TheVariants.{Changed, Answered}
use Rattle.usb_wire.specs.declared.question.Asked.{Asked}
use Rattle.usb_wire.specs.declared.question.Asked.TheVariants.{Hello, Attempt, Port, Wait}
use Rattle.usb_wire.specs.Fields.{address_text, hex_value}
use Rattle.usb_wire.specs.Writes.{IsWrite}

-- setup data, and after a space the bytes that go with them, if there are any
abbrev pub write_text : List ℕ → List ℕ → List ℕ → List ℕ
write_text setup digits [] = setup
write_text setup digits (b ∷ bytes) = setup ++ codes " " ++ digits

-- the line of each answer, with the digits of its setup data and of its bytes
abbrev pub answer_in_digits : List ℕ → List ℕ → Answer → List ℕ
answer_in_digits setup digits (Roots roots) = codes "roots " ++ decimal roots
answer_in_digits setup digits (RootsAndRows roots) = codes "roots " ++ decimal roots ++ codes " 2"
answer_in_digits setup digits Ack = codes "ACK"
answer_in_digits setup digits Nak = codes "NAK"
answer_in_digits setup digits Stall = codes "STALL"
answer_in_digits setup digits Nothing = codes "none"
answer_in_digits setup digits (Data sent) = data_name sent.toggle ++ digits
answer_in_digits setup digits Done = codes "ok"
answer_in_digits setup digits Show = codes "show"
answer_in_digits setup digits End = codes "end"
answer_in_digits setup digits (Send path bytes) =
    codes "send " ++ path_text path ++ codes " " ++ digits
answer_in_digits setup digits (Receive path packets) =
    codes "receive " ++ path_text path ++ codes " " ++ decimal packets
answer_in_digits setup digits (Clear path) = codes "clear " ++ path_text path
answer_in_digits setup digits (SendTo path endpoint bytes) =
    codes "send " ++ path_text path ++ codes " " ++ address_text endpoint ++ codes " " ++ digits
answer_in_digits setup digits (ReceiveFrom path endpoint packets) =
    codes "receive " ++ path_text path ++ codes " " ++ address_text endpoint ++ codes " " ++
    decimal packets
answer_in_digits setup digits (Poll path endpoint) =
    codes "interrupt " ++ path_text path ++ codes " " ++ address_text endpoint
answer_in_digits setup digits (ClearOf path endpoint) =
    codes "clear " ++ path_text path ++ codes " " ++ address_text endpoint
answer_in_digits setup digits (Interface path interface setting) =
    codes "interface " ++ path_text path ++ codes " " ++ decimal interface ++ codes " " ++
    decimal setting
answer_in_digits setup digits (ControlIn path request) =
    codes "control " ++ path_text path ++ codes " " ++ setup
answer_in_digits setup digits (ControlOut path write) =
    codes "control " ++ path_text path ++ codes " " ++ write_text setup digits write.bytes
answer_in_digits setup digits (Look path) = codes "look " ++ path_text path
answer_in_digits setup digits News = codes "news"

-- the answer has the host make a call at a path; of a private function
abbrev pub asks_call : Answer → Bool
asks_call (Send path bytes) = true
asks_call (Receive path packets) = true
asks_call (Clear path) = true
asks_call (SendTo path endpoint bytes) = true
asks_call (ReceiveFrom path endpoint packets) = true
asks_call (Poll path endpoint) = true
asks_call (ClearOf path endpoint) = true
asks_call (Interface path interface setting) = true
asks_call (ControlIn path request) = true
asks_call (ControlOut path write) = true
asks_call (Look path) = true
asks_call _ = false

-- the line of what is said, with those digits
abbrev pub said_in_digits : List ℕ → List ℕ → Said → List ℕ
said_in_digits setup digits (Changed number status) =
    codes "port " ++ decimal number ++ codes " " ++ digits
said_in_digits setup digits (Answered answer) = answer_in_digits setup digits answer

-- the setup data in it
abbrev pub answer_setup : Answer → List ℕ
answer_setup (ControlIn path request) = bytes_of request
answer_setup (ControlOut path write) = bytes_of write.setup
answer_setup _ = []

abbrev pub said_setup : Said → List ℕ
said_setup (Changed number status) = []
said_setup (Answered answer) = answer_setup answer

-- the bytes in it
abbrev pub answer_bytes : Answer → List ℕ
answer_bytes (Data sent) = sent.bytes.items
answer_bytes (Send path bytes) = bytes.items
answer_bytes (SendTo path endpoint bytes) = bytes.items
answer_bytes (ControlOut path write) = write.bytes
answer_bytes _ = []

abbrev pub said_bytes : Said → List ℕ
said_bytes (Changed number status) = status
said_bytes (Answered answer) = answer_bytes answer

-- the line as it is written: digits in upper case
abbrev pub said_line : Said → List ℕ
said_line said =
    said_in_digits (hex_text (said_setup said)) (hex_text (said_bytes said)) said

-- the line says this, in digits of either case
pub record IsSaidLine (line : List ℕ) (said : Said) : Type 0 where
  pub setup : List ℕ
  pub digits : List ℕ
  pub set_up : hex_value setup ≡ Some (said_setup said)
  pub spelled : hex_value digits ≡ Some (said_bytes said)
  pub written : line ≡ said_in_digits setup digits said

-- at most so many bytes
abbrev pub AreAtMost : ℕ → List ℕ → Type 0
AreAtMost most bytes = (length bytes ≤ most) × IsBytes bytes

-- the data of a packet
abbrev pub IsData : List ℕ → Type 0
IsData bytes = AreAtMost 64 bytes

-- the most bytes to the first bulk endpoint
abbrev pub send_limit : ℕ
send_limit = 500

-- the room for the path and for two digits a byte, beside a word and two spaces in 1,024 bytes
abbrev pub send_room : ℕ
send_room = 1018

abbrev pub HasRoom : List ℕ → List ℕ → Type 0
HasRoom path bytes = length (path_text path) + 2 * length bytes ≤ send_room

-- the most bytes to an endpoint that is named
abbrev pub send_to_limit : ℕ
send_to_limit = 490

-- the most bytes of a row of OUTs
abbrev pub row_limit : ℕ
row_limit = 448

-- the most bytes that are written to endpoint 0
abbrev pub write_limit : ℕ
write_limit = 480

-- the fields of setup data fit their bytes
abbrev pub IsSetupData : SetupData → Type 0
IsSetupData s =
    (s.request_type < 256) × (s.request < 256) × (s.value < 2 ^ 16) × (s.index < 2 ^ 16)
    × (s.length < 2 ^ 16)

-- what may be answered to each question
abbrev pub MayAnswer : Asked → Answer → Type 0
MayAnswer Hello (Roots roots) = (1 ≤ roots) × (roots ≤ 7)
MayAnswer Hello (RootsAndRows roots) = (1 ≤ roots) × (roots ≤ 7)
MayAnswer Attempt Ack = Unit {0}
MayAnswer Attempt Nak = Unit {0}
MayAnswer Attempt Stall = Unit {0}
MayAnswer Attempt Nothing = Unit {0}
MayAnswer Attempt (Data sent) = IsData sent.bytes.items
MayAnswer Port Done = Unit {0}
MayAnswer Wait Done = Unit {0}
MayAnswer Wait Show = Unit {0}
MayAnswer Wait End = Unit {0}
MayAnswer Wait (Send path bytes) =
    IsPath path × AreAtMost send_limit bytes.items × HasRoom path bytes.items
MayAnswer Wait (Receive path packets) = IsPath path × (packets ≤ 1000)
MayAnswer Wait (Clear path) = IsPath path
MayAnswer Wait (SendTo path endpoint bytes) = IsPath path × (is_endpoint_address endpoint ≡ true)
    × AreAtMost send_to_limit bytes.items
MayAnswer Wait (ReceiveFrom path endpoint packets) =
    IsPath path × (is_endpoint_address endpoint ≡ true) × (packets ≤ 1000)
MayAnswer Wait (Poll path endpoint) = IsPath path × (is_endpoint_address endpoint ≡ true)
MayAnswer Wait (ClearOf path endpoint) = IsPath path × (is_endpoint_address endpoint ≡ true)
MayAnswer Wait (Interface path interface setting) =
    IsPath path × (interface ≤ 255) × (setting ≤ 255)
MayAnswer Wait (ControlIn path request) = IsPath path × IsSetupData request × IsToHost request
MayAnswer Wait (ControlOut path write) = IsPath path × IsSetupData write.setup × IsWrite write
    × AreAtMost write_limit write.bytes
MayAnswer Wait (Look path) = IsPath path
MayAnswer Wait News = Unit {0}
MayAnswer _ _ = ⊥

-- where a root port's status may be pushed: before any answer but the hello's
abbrev pub MayPush : Asked → Type 0
MayPush Hello = ⊥
MayPush _ = Unit {0}

-- what may be said behind each question, where there are so many root ports
abbrev pub MaySay : Asked → ℕ → Said → Type 0
MaySay asked roots (Changed number status) =
    MayPush asked × (1 ≤ number) × (number ≤ roots) × (length status ≡ 4) × IsBytes status
MaySay asked roots (Answered answer) = MayAnswer asked answer
