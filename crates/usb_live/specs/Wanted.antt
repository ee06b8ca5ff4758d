-- What the host does of what is wanted, and the item that it owes.
use Rattle.std.specs.Prelude.{[], ◌≡◌, Option, None, Some, Result, Ok, Err, true}
use Rattle.usb_world.specs.declared.event.Ask.{Ask}
use Rattle.usb_world.specs.declared.event.Ask.TheVariants as ask
use Rattle.usb_wire.specs.{Answer}
use Rattle.usb_wire.specs.declared.answer.Answer.TheVariants as answer
use Rattle.usb_run.specs.{HostState}
use Rattle.usb_run.specs.{Does, Item, Listing, Memory, RunFault}
use Rattle.usb_live.specs.Course.{owed_by, settles}
use Rattle.usb_live.specs.declared.owed.Owed.TheVariants as owed

-- the item is the one that this owes; if it owes none, there is none
abbrev pub IsOwed : Answer → Option Item → Type 0
IsOwed answer None = owed_by (Ok answer) ≡ owed.Nothing
IsOwed answer (Some item) = settles (owed_by (Ok answer)) item ≡ true

-- the event of a plan that asks the same
abbrev pub ask_of : Answer → Option Ask
ask_of (answer.Send path bytes) = Some (ask.Send path bytes.items)
ask_of (answer.Receive path packets) = Some (ask.Receive path packets)
ask_of (answer.Clear path) = Some (ask.Clear path)
ask_of (answer.SendTo path endpoint bytes) = Some (ask.SendTo path endpoint bytes.items)
ask_of (answer.ReceiveFrom path endpoint packets) = Some (ask.ReceiveFrom path endpoint packets)
ask_of (answer.Poll path endpoint) = Some (ask.Poll path endpoint)
ask_of (answer.ClearOf path endpoint) = Some (ask.ClearOf path endpoint)
ask_of (answer.Interface path interface setting) = Some (ask.SetInterface path interface setting)
ask_of (answer.ControlIn path request) = Some (ask.ControlIn path request)
ask_of (answer.ControlOut path write) =
    Some (ask.ControlOut path (record { setup = write.setup; bytes = write.bytes }))
ask_of (answer.Look path) = Some (ask.Look path)
ask_of answer.News = Some ask.News
ask_of other = None

-- nothing changed, and the item lists what the host has found, or memory was refused for it
abbrev pub Lists : HostState → Result (Option Item) RunFault → HostState → Type 0
Lists old (Ok item) new = (item ≡ Some (Listing new.entries 0 [])) × (new ≡ old)
Lists old (Err fault) new = (fault ≡ Memory) × (new ≡ old)

-- a listing was made; all else was done as a run does it at the event of a plan
abbrev pub DoesWanted : Answer → HostState → Result (Option Item) RunFault → HostState → Type 0
DoesWanted answer.Show old result new = Lists old result new
DoesWanted answer.End old result new = Lists old result new
DoesWanted other old result new = Does (ask_of other) old result new
