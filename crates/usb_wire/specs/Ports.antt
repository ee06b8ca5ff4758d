-- The ports that a host knows, and what may be said to it.
use Rattle.std.specs.Prelude.{◌≡◌, ℕ, ◌&&◌, ◌||◌, nat_le, Bool, true, List, [], ◌∷◌, Option, Some}
use Rattle.std.specs.Prelude.{None, Result, Ok, Err, if◌then◌else◌}
use Rattle.std.specs.List.{list_all}
use Rattle.usb_wire.specs.declared.answer.Answer.{Answer}
use Rattle.usb_wire.specs.declared.answer.Answer.TheVariants.{Send, Receive, Clear, SendTo}
use Rattle.usb_wire.specs.declared.answer.Answer.TheVariants.{ReceiveFrom, Poll, ClearOf, Interface}
use Rattle.usb_wire.specs.declared.answer.Answer.TheVariants.{ControlIn, ControlOut, Look}
use Rattle.usb_wire.specs.declared.answer.Said.{Said}
use Rattle.usb_wire.specs.declared.answer.Said.TheVariants.{Changed, Answered}
use Rattle.usb_wire.specs.declared.fault.WireFault.{WireFault}
use Rattle.usb_wire.specs.declared.fault.WireFault.TheVariants.{BadPath}
use Rattle.usb_wire.specs.declared.question.Asked.{Asked}
use Rattle.usb_wire.specs.declared.reading.Hubs.{Hubs}
use Rattle.usb_wire.specs.Answers.{MaySay}
use Rattle.usb_wire.specs.Faults.{form_fault}
use Rattle.usb_wire.specs.Reading.{line_says}

-- the path in an answer, none where it has none
abbrev pub answer_path : Answer → List ℕ
answer_path (Send path bytes) = path
answer_path (Receive path packets) = path
answer_path (Clear path) = path
answer_path (SendTo path endpoint bytes) = path
answer_path (ReceiveFrom path endpoint packets) = path
answer_path (Poll path endpoint) = path
answer_path (ClearOf path endpoint) = path
answer_path (Interface path interface setting) = path
answer_path (ControlIn path request) = path
answer_path (ControlOut path write) = path
answer_path (Look path) = path
answer_path _ = []

abbrev pub said_path : Said → List ℕ
said_path (Changed number status) = []
said_path (Answered answer) = answer_path answer

-- a number that a hub of 1 to 7 ports has
abbrev pub is_narrow : ℕ → Bool
is_narrow n = nat_le n 7

-- a root hub has at most 7 ports, and so have the others, but where wide hubs are taken
abbrev pub names_ports : Bool → List ℕ → Bool
names_ports wide [] = true
names_ports wide (root ∷ more) = is_narrow root && (wide || list_all is_narrow more)

-- what may be said to a host behind each question
abbrev pub MaySayTo : Asked → Hubs → Said → Type 0
MaySayTo asked hubs said =
    MaySay asked hubs.roots said × (names_ports hubs.wide (said_path said) ≡ true)

-- what is said, where it names ports that a host may have
abbrev pub said_to : Bool → Result Said WireFault → Result Said WireFault
said_to wide (Ok said) = if names_ports wide (said_path said) then Ok said else Err BadPath
said_to wide (Err fault) = Err fault

-- the fault of a line that is of a form: its path
abbrev pub port_fault : Bool → Result Said WireFault → Option WireFault
port_fault wide (Ok said) = if names_ports wide (said_path said) then None else Some BadPath
port_fault wide (Err fault) = None

-- the first fault of a line behind a question to a host
abbrev pub line_fault : Asked → Hubs → List ℕ → Option WireFault
line_fault asked hubs line = elim (form_fault asked hubs.roots line) [
  | Some fault ↦ Some fault
  | None ↦ port_fault hubs.wide (line_says asked hubs.roots line)
]
