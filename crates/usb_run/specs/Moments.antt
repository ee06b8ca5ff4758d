-- What is right of the items of a plan's run.
use Rattle.std.specs.Prelude.{◌≡◌, ◌≤◌, ⊤, ℕ, List, All, length, Option, Some, Result, Ok, Err}
use Rattle.std.specs.Prelude.{true, is_ok}
use Rattle.std.specs.List.{AllByRecursion}
use Rattle.usb_world.specs.declared.event.Ask.{Ask}
use Rattle.usb_world.specs.{Show, Send, Receive, Clear, ControlIn, ControlOut, Look as LookAt}
use Rattle.usb_world.specs.{News as AskNews, SendTo, ReceiveFrom, Poll, ClearOf, SetInterface}
use Rattle.usb_world.specs.{PlanData, AreOfDamages, AtMostTwoRunning, EachWas, World}
use Rattle.usb_device.specs.{reach}
use Rattle.usb_transfer.specs.{Target, PipeFault}
use Rattle.usb_enum.specs.{FewLosses, usual_options}
use Rattle.usb_table.specs.{ChangesAt, Delivered, Collected, ReadLeft, ReadMade, Restarted}
use Rattle.usb_table.specs.{TransferFault, TransferIs, TransferLeaves, WriteLeft, WriteMade}
use Rattle.usb_table.specs.{bytes_in, control_target, Lists, table_answer, tree_after, write_target}
use Rattle.usb_table.specs.{FirstBulk, At, Reported, RestartedOf, SettingLeft, TableFault}
use Rattle.usb_table.specs.{Transfer, interface_target, pipes_at}
use Rattle.usb_table.specs.{InterfaceSet}
use Rattle.usb_host.specs.{HostFault, HostState, Look, LookDid, host_told, table_in}
use Rattle.usb_host.specs.declared.fault.HostFault.TheVariants as host
use Rattle.usb_run.specs.NewsCalls.{AllNews}
use Rattle.usb_run.specs.RunSegments.{Knows, Settled}
use Rattle.usb_run.specs.Transfers.{sent_count, transfer_ended}
use Rattle.usb_run.specs.declared.item.Item.{Item}
use Rattle.usb_run.specs.declared.item.Item.TheVariants.{Listing, Answer, News as ToldNews}
use Rattle.usb_run.specs.declared.item.Task.TheVariants as task
use Rattle.usb_run.specs.declared.item.TaskEnd.TheVariants.{Sent, Received, Done, Polled, Looked}
use Rattle.usb_run.specs.declared.runs.Report.{Report}

-- a control transfer was made to a target, the device at a path: that did what this says, any other
-- is as it was, and if the transfer is done, a device is reached there
pub record ControlTold {A : Type 0} (Is : TransferIs A) (Leaves : TransferLeaves A)
    (path : List ℕ) (target : Target) (old : World) (told : Result A TransferFault) (new : World)
    : Type 0 where
  pub answer : Result A PipeFault
  pub is : transfer_ended (host_told (table_answer answer)) ≡ Ok told
  pub made : Is target old answer new
  pub each : EachWas (λ x. ChangesAt path (Leaves target answer old new x) x) old new
  pub there : is_ok told ≡ true → reach new.roots path ≡ true

-- so it was if there is a target; else that is told, and nothing changed
abbrev pub ControlIfAsked : {A : Type 0} → TransferIs A → TransferLeaves A → List ℕ
    → Result Target TransferFault → World → Result A TransferFault → World → Type 0
ControlIfAsked Is Leaves path (Ok target) old told new =
    ControlTold Is Leaves path target old told new
ControlIfAsked Is Leaves path (Err fault) old told new = (told ≡ Err fault) × (new ≡ old)

-- what a transfer came to, as the table told it
abbrev pub table_told : {A : Type 0} → Result A TransferFault → Result A TableFault
table_told (Ok done) = Ok done
table_told (Err fault) = Err (Transfer fault)

-- SET_INTERFACE was sent to a target, the device at a path: that took the setting, or not, and each
-- other device is as it was
pub record InterfaceTold (path : List ℕ) (interface setting : ℕ) (target : Target) (old : HostState)
    (told : Result (Unit {0}) TransferFault) (new : HostState) : Type 0 where
  pub set : InterfaceSet path interface setting (table_in old) target old.world (table_told told)
      (table_in new) new.world
  pub each : EachWas (ChangesAt path (SettingLeft interface setting set.answer)) old.world new.world

-- so it was if there is a target; else that is told, and nothing changed
abbrev pub InterfaceIfAsked : List ℕ → ℕ → ℕ → Result Target TransferFault → HostState
    → Result (Unit {0}) TransferFault → HostState → Type 0
InterfaceIfAsked path interface setting (Ok target) old told new =
    InterfaceTold path interface setting target old told new
InterfaceIfAsked path interface setting (Err fault) old told new =
    (told ≡ Err fault) × (pipes_at path (table_in new) ≡ pipes_at path (table_in old))
    × (new.world ≡ old.world)

-- what a look came to, as the host told it
abbrev pub as_answer : {A : Type 0} → Result A TransferFault → Result A HostFault
as_answer (Ok done) = Ok done
as_answer (Err fault) = Err (host.Transfer fault)

-- the port at a path was enumerated anew, and what is told is what is listed there then, or that no
-- port has the path; what the host knows after it is so
pub record LookShows (path : List ℕ) (old : HostState) (told : Result Look TransferFault)
    (new : HostState) : Type 0 where
  pub did : LookDid path old (as_answer told) new
  pub knows : Knows new

-- what an item tells of the event that asked for it is so: of a listing the host had settled; the
-- device at the path took the bytes that were to be sent, gave those or the packet that is told,
-- had its halts cleared, or answered or took what is told, at the endpoint that was asked for or at
-- its first bulk one; an interface took the setting that was asked for; a look shows what is listed
-- at its port; and the news are all there were
abbrev pub TellsRight : Option Ask → Item → HostState → HostState → Type 0
TellsRight (Some (Show said)) item old new = Settled new
TellsRight (Some (Send path bytes)) (Answer to (task.Send FirstBulk) (Sent told)) old new =
    Delivered path FirstBulk (is_ok told) bytes (table_in old) old.world (table_in new) new.world
TellsRight (Some (Receive path packets)) (Answer from (task.Receive FirstBulk) (Received told))
    old new =
    Collected path FirstBulk (is_ok told) packets (bytes_in told) (table_in old) old.world
    (table_in new) new.world
TellsRight (Some (Clear path)) (Answer at task.Clear (Done told)) old new =
    Restarted path (is_ok told) (table_in old) old.world (table_in new) new.world
TellsRight (Some (SendTo path endpoint bytes)) (Answer to (task.Send (At at)) (Sent told)) old new =
    Delivered path (At endpoint) (is_ok told) bytes (table_in old) old.world (table_in new)
    new.world
TellsRight (Some (ReceiveFrom path endpoint packets))
    (Answer from (task.Receive (At at)) (Received told)) old new =
    Collected path (At endpoint) (is_ok told) packets (bytes_in told) (table_in old) old.world
    (table_in new) new.world
TellsRight (Some (Poll path endpoint)) (Answer from (task.Poll at) (Polled told)) old new =
    Reported path endpoint (table_told told) (table_in old) old.world (table_in new) new.world
TellsRight (Some (ClearOf path endpoint)) (Answer of (task.ClearOf at) (Done told)) old new =
    RestartedOf path endpoint (is_ok told) (table_in old) old.world (table_in new) new.world
TellsRight (Some (SetInterface path interface setting))
    (Answer of (task.SetInterface number chosen) (Done told)) old new =
    InterfaceIfAsked path interface setting (interface_target path interface setting old.entries)
    old told new
TellsRight (Some (ControlIn path request)) (Answer from task.ControlIn (Received told)) old new =
    ControlIfAsked (ReadMade request) (ReadLeft request) path (control_target path old.entries)
    old.world told new.world
TellsRight (Some (ControlOut path write)) (Answer to task.ControlOut (Sent count)) old new =
    (told : Result (Unit {0}) TransferFault) × (count ≡ sent_count (length write.bytes) told)
    × ControlIfAsked (WriteMade write.setup write.bytes) (WriteLeft write.setup write.bytes) path
    (write_target path write.setup old.entries) old.world told new.world
TellsRight (Some (LookAt path)) (Answer at task.Look (Looked told)) old new =
    LookShows path old told new
TellsRight (Some AskNews) (ToldNews news) old new = AllNews old news.items new
TellsRight due item old new = ⊥

-- What is plugged

-- a listing is what the events that had come have left plugged
abbrev pub IsListingOf : PlanData → Item → Type 0
IsListingOf plan (Listing tree taken said) =
    Lists (usual_options plan.wide) plan.roots (tree_after plan taken) tree
IsListingOf plan (ToldNews news) = ⊤
IsListingOf plan (Answer path t end) = ⊤

-- each listing of a run is right, whether it stopped at a fault or not, where no three attempts
-- running are damaged and no address was lost three times up to its last world; and there is a
-- damage for each address that was
pub record ListsRight (plan : PlanData) (items : List Item) (last : World) : Type 0 where
  pub losses : AreOfDamages last.attempts plan.damages last.losses
  pub right : AtMostTwoRunning plan.damages → FewLosses last
      → AllByRecursion (IsListingOf plan) items

-- Without a world

-- where no address was lost three times running, each listing of a report is what is plugged when
-- it is made
abbrev pub ListsPlugged : PlanData → Report → Type 0
ListsPlugged plan report = report.worst_address_run ≤ 2 → All (IsListingOf plan) report.items.items
