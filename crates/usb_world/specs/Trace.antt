-- The text of the trace.
use Rattle.std.specs.Prelude.{ℕ, Bool, true, false, List, [], ◌++◌, codes, decimal, Option, Some}
use Rattle.std.specs.Prelude.{None}
use Rattle.usb_packet.specs.{text_of}
use Rattle.usb_port.specs.{path_text}
use Rattle.usb_world.specs.declared.exchange.Exchange.{Exchange}
use Rattle.usb_world.specs.declared.exchange.ExchangeAnswer.{ExchangeAnswer}
use Rattle.usb_world.specs.declared.wire.Mark.{Mark}
use Rattle.usb_world.specs.declared.wire.Mark.TheVariants.{Whole, Lost, PreLost, Flipped}
use Rattle.usb_world.specs.declared.wire.Outgoing.{Outgoing}
use Rattle.usb_world.specs.declared.exchange.ExchangeAnswer.TheVariants.{Nothing, One, Collision}

abbrev pub pre_text : Bool → List ℕ
pre_text true = codes "PRE "
pre_text false = []

-- what damage did to a packet, behind its text
abbrev pub mark_text : Mark → List ℕ
mark_text Whole = []
mark_text Lost = codes " [lost]"
mark_text PreLost = codes " [pre lost]"
mark_text (Flipped bit) = codes " [bit " ++ decimal bit ++ codes "]"

-- a packet of the host
abbrev pub host_text : Bool → Outgoing → List ℕ
host_text pre s = pre_text pre ++ text_of s.packet ++ mark_text s.mark

-- a further packet of the host, where there is one
abbrev pub next_text : Bool → Option Outgoing → List ℕ
next_text pre None = []
next_text pre (Some s) = codes " / " ++ host_text pre s

-- the devices' answer
abbrev pub answer_text : ExchangeAnswer → List ℕ
answer_text Nothing = codes "none"
answer_text Collision = codes "collision"
answer_text (One p) = text_of p

-- an attempt's number and its packets
abbrev pub attempt_line : ℕ → Bool → Exchange → List ℕ
attempt_line number pre x = decimal number ++ codes " " ++ host_text pre x.token ++ next_text pre
    x.payload ++ codes " / " ++ answer_text x.answer ++ mark_text x.answer_mark ++ next_text pre
    x.reply

-- a plug, by its path and the device's name as it is shown
abbrev pub plug_line : List ℕ → List ℕ → List ℕ
plug_line path shown = codes "plug " ++ path_text path ++ codes " " ++ shown

abbrev pub unplug_line : List ℕ → List ℕ
unplug_line path = codes "unplug " ++ path_text path
