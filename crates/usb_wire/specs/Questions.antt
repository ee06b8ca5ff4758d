-- The questions of the host, and the line of each.
use Rattle.std.specs.Prelude.{◌≡◌, ℕ, ◌<◌, ◌≤◌, Bool, true, false, List, [], ◌++◌, codes, decimal}
use Rattle.std.specs.Prelude.{length, Some}
use Rattle.usb_packet.specs.{Speed, Full, Low, LowBelowHub}
use Rattle.usb_packet.specs.{TokenKind, OutTok, InTok, SetupTok, Toggle, Zero, data_name, hex_text}
use Rattle.usb_packet.specs.{token_name}
use Rattle.usb_port.specs.{PortCall, SetPower, SetReset, ClearEnable, ClearPower}
use Rattle.usb_port.specs.{ClearConnectionChange, ClearEnableChange, ClearResetChange}
use Rattle.usb_request.specs.{bytes_of}
use Rattle.usb_wire.specs.Answers.{AreAtMost, IsData, IsSetupData, row_limit}
use Rattle.usb_wire.specs.Fields.{hex_value}
use Rattle.usb_wire.specs.declared.question.Asked.{Asked}
use Rattle.usb_wire.specs.declared.question.Asked.TheVariants.{Hello as OfHello}
use Rattle.usb_wire.specs.declared.question.Asked.TheVariants.{Attempt as OfAttempt, Port as OfPort}
use Rattle.usb_wire.specs.declared.question.Asked.TheVariants.{Wait as OfWait}
use Rattle.usb_wire.specs.declared.question.Endpoint.{Endpoint}
use Rattle.usb_wire.specs.declared.question.Question.{Question}
use Rattle.usb_wire.specs.declared.question.Question.TheVariants.{Hello, Setup, Out, In, Port}
use Rattle.usb_wire.specs.declared.question.Question.TheVariants.{Ins, Outs, Restart, Wait}

-- which answers a question has
abbrev pub kind_asked : Question → Asked
kind_asked Hello = OfHello
kind_asked (Setup speed endpoint setup) = OfAttempt
kind_asked (Out speed endpoint sent) = OfAttempt
kind_asked (In speed endpoint most) = OfAttempt
kind_asked (Ins speed endpoint most toggle packets) = OfAttempt
kind_asked (Outs speed endpoint most toggle bytes) = OfAttempt
kind_asked (Port number call) = OfPort
kind_asked (Restart endpoint is_in) = OfPort
kind_asked Wait = OfWait

-- what stands before a token: the device is of low speed, at a root port or below a hub (8.6.5)
abbrev pub speed_text : Speed → List ℕ
speed_text Full = []
speed_text Low = codes "low "
speed_text LowBelowHub = codes "PRE "

-- what stands between a token and the host's data
abbrev pub between_text : Speed → List ℕ
between_text Full = codes " / "
between_text Low = codes " / "
between_text LowBelowHub = codes " / PRE "

-- a token, as in a trace
abbrev pub token_text : TokenKind → Endpoint → List ℕ
token_text kind e = token_name kind ++ decimal e.address ++ codes "." ++ decimal e.number

-- the way that an endpoint's data go
abbrev pub direction_text : Bool → List ℕ
direction_text true = codes "in"
direction_text false = codes "out"

-- a data packet, with the digits of its data
abbrev pub data_with : Toggle → List ℕ → List ℕ
data_with toggle digits = data_name toggle ++ digits

-- a call of a root port, by the name of its feature (table 11-17)
abbrev pub call_text : PortCall → List ℕ
call_text SetPower = codes "set PORT_POWER"
call_text SetReset = codes "set PORT_RESET"
call_text ClearEnable = codes "clear PORT_ENABLE"
call_text ClearPower = codes "clear PORT_POWER"
call_text ClearConnectionChange = codes "clear C_PORT_CONNECTION"
call_text ClearEnableChange = codes "clear C_PORT_ENABLE"
call_text ClearResetChange = codes "clear C_PORT_RESET"

-- a row of OUTs is the question of one OUT with the digits of all packets, and with the maximum
abbrev pub outs_text : Speed → Endpoint → ℕ → Toggle → List ℕ → List ℕ
outs_text speed endpoint most toggle digits =
    speed_text speed ++ token_text OutTok endpoint ++ between_text speed ++ data_with toggle digits
    ++ codes " " ++ decimal most

-- a row of INs is the question of one IN, with the toggle that is due and the most packets
abbrev pub ins_text : Speed → Endpoint → ℕ → Toggle → ℕ → List ℕ
ins_text speed endpoint most toggle packets =
    speed_text speed ++ token_text InTok endpoint ++ codes " " ++ decimal most ++ codes " " ++
    data_with toggle (decimal packets)

-- the line of each question, with the digits of its bytes
abbrev pub question_in_digits : List ℕ → Question → List ℕ
question_in_digits digits Hello = codes "usbplan live 1"
question_in_digits digits (Setup speed endpoint setup) =
    speed_text speed ++ token_text SetupTok endpoint ++ between_text speed ++ data_with Zero digits
question_in_digits digits (Out speed endpoint sent) =
    speed_text speed ++ token_text OutTok endpoint ++ between_text speed ++ data_with sent.toggle
    digits
question_in_digits digits (In speed endpoint most) =
    speed_text speed ++ token_text InTok endpoint ++ codes " " ++ decimal most
question_in_digits digits (Ins speed endpoint most toggle packets) =
    ins_text speed endpoint most toggle packets
question_in_digits digits (Outs speed endpoint most toggle bytes) =
    outs_text speed endpoint most toggle digits
question_in_digits digits (Port number call) = codes "port " ++ decimal number ++ codes " " ++
    call_text call
question_in_digits digits (Restart endpoint is_in) =
    codes "restart " ++ decimal endpoint.address ++ codes "." ++ decimal endpoint.number ++
    codes " " ++ direction_text is_in
question_in_digits digits Wait = codes "wait"

-- the bytes in it
abbrev pub question_bytes : Question → List ℕ
question_bytes (Setup speed endpoint setup) = bytes_of setup
question_bytes (Out speed endpoint sent) = sent.bytes.items
question_bytes (Outs speed endpoint most toggle bytes) = bytes.items
question_bytes _ = []

-- of a private function
abbrev pub is_outs : Question → Bool
is_outs (Outs speed endpoint most toggle bytes) = true
is_outs _ = false

-- the line as it is written: digits in upper case
abbrev pub question_line : Question → List ℕ
question_line question = question_in_digits (hex_text (question_bytes question)) question

-- the line asks this, in digits of either case
pub record IsQuestionLine (line : List ℕ) (question : Question) : Type 0 where
  pub digits : List ℕ
  pub spelled : hex_value digits ≡ Some (question_bytes question)
  pub written : line ≡ question_in_digits digits question

-- the fields fit their places
abbrev pub IsEndpoint : Endpoint → Type 0
IsEndpoint e = (e.address < 128) × (e.number < 16)

-- a maximum packet, and how many packets
abbrev pub IsMost : ℕ → Type 0
IsMost most = (1 ≤ most) × (most ≤ 64)

-- the bytes of a row: at most as many as a line has room for
abbrev pub IsRow : List ℕ → Type 0
IsRow bytes = (1 ≤ length bytes) × AreAtMost row_limit bytes

-- what may be asked
abbrev pub IsQuestion : Question → Type 0
IsQuestion Hello = Unit {0}
IsQuestion (Setup speed endpoint setup) = IsEndpoint endpoint × IsSetupData setup
IsQuestion (Out speed endpoint sent) = IsEndpoint endpoint × IsData sent.bytes.items
IsQuestion (In speed endpoint most) = IsEndpoint endpoint × (1 ≤ most) × (most ≤ 64)
IsQuestion (Ins speed endpoint most toggle packets) =
    IsEndpoint endpoint × IsMost most × IsMost packets
IsQuestion (Outs speed endpoint most toggle bytes) =
    IsEndpoint endpoint × IsMost most × IsRow bytes.items
IsQuestion (Port number call) = (1 ≤ number) × (number ≤ 7)
IsQuestion (Restart endpoint is_in) = IsEndpoint endpoint × (1 ≤ endpoint.number)
IsQuestion Wait = Unit {0}
