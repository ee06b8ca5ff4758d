-- What an event requests of the host, as it is reported.
use Rattle.std.specs.Prelude.{ℕ, nat_lt, List, length, drop, take, if◌then◌else◌, Option, Some}
use Rattle.std.specs.Prelude.{None}
use Rattle.usb_world.specs.declared.event.Ask.{Ask}
use Rattle.usb_world.specs.declared.event.Ask.TheVariants as ask
use Rattle.usb_world.specs.{Write}
use Rattle.usb_wire.specs.{write_limit, Answer}
use Rattle.usb_wire.specs.{ControlOut, ClearOf, Poll, ReceiveFrom, SendTo, Done, Show, End, Send}
use Rattle.usb_wire.specs.{Receive, Clear, ControlIn, Look, Interface, News}
use Rattle.usb_far.specs.declared.wanted.Wanted.{Wanted}
use Rattle.usb_far.specs.Sends.{ToSend, fits_line}

-- an answer after which nothing is left to send
abbrev pub alone : Answer → Wanted
alone answer = record { answer = answer; sending = None }

-- a multiple of each bulk packet's maximum (5.8.3), so that the packets are those of one send
abbrev pub part_size : ℕ
part_size = 448

abbrev pub send_answer : List ℕ → Option ℕ → List ℕ → Answer
send_answer path None bytes = Send path (record { items = bytes })
send_answer path (Some endpoint) bytes = SendTo path endpoint (record { items = bytes })

-- a send goes in as many lines as it takes: all that is left if a line has room for it, else the
-- first 448 bytes
abbrev pub part_wanted : ToSend → Wanted
part_wanted s =
    if fits_line s then alone (send_answer s.path s.endpoint s.bytes)
    else record {
      answer = send_answer s.path s.endpoint (take part_size s.bytes);
      sending = Some (record s { bytes = drop part_size s.bytes });
    }

abbrev pub send_wanted : List ℕ → Option ℕ → List ℕ → Wanted
send_wanted path endpoint bytes =
    part_wanted (record { path = path; endpoint = endpoint; bytes = bytes })

-- as many bytes as a line has room for
unfoldable pub write_wanted : List ℕ → Write → Option Wanted
write_wanted path request =
    if nat_lt write_limit (length request.bytes) then None
    else Some (alone (ControlOut path (record { setup = request.setup; bytes = request.bytes })))

abbrev pub asked_wanted : Ask → Option Wanted
asked_wanted (ask.Show said) = Some (alone Show)
asked_wanted (ask.Send path bytes) = Some (send_wanted path None bytes)
asked_wanted (ask.Receive path packets) = Some (alone (Receive path packets))
asked_wanted (ask.Clear path) = Some (alone (Clear path))
asked_wanted (ask.SendTo path endpoint bytes) = Some (send_wanted path (Some endpoint) bytes)
asked_wanted (ask.ReceiveFrom path endpoint packets) =
    Some (alone (ReceiveFrom path endpoint packets))
asked_wanted (ask.Poll path endpoint) = Some (alone (Poll path endpoint))
asked_wanted (ask.ClearOf path endpoint) = Some (alone (ClearOf path endpoint))
asked_wanted (ask.SetInterface path interface setting) =
    Some (alone (Interface path interface setting))
asked_wanted (ask.ControlIn path request) = Some (alone (ControlIn path request))
asked_wanted (ask.ControlOut path request) = write_wanted path request
asked_wanted (ask.Look path) = Some (alone (Look path))
asked_wanted ask.News = Some (alone News)

-- what an event requests, and the end where none is left; nothing where no line has room for it
abbrev pub due_wanted : Option (Option Ask) → Option Wanted
due_wanted None = Some (alone End)
due_wanted (Some None) = Some (alone Done)
due_wanted (Some (Some asked)) = asked_wanted asked

abbrev pub answer_in : Option Wanted → Option Answer
answer_in None = None
answer_in (Some w) = Some w.answer

abbrev pub sending_in : Option Wanted → Option ToSend
sending_in None = None
sending_in (Some w) = w.sending
