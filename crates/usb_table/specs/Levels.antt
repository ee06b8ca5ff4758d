-- That the pipes to a device are as far as the endpoints at their other ends.
use Rattle.std.specs.Prelude.{◌≡◌, ◌≤◌, ⊤, ℕ, ◌*◌, List, length, true, false, Option, Some, None}
use Rattle.std.specs.Prelude.{is_some, IfSome, Result, IsOk, IfOk, IfErr}
use Rattle.std.specs.Global.{Vec}
use Rattle.std.specs.BTreeMap.{is_at}
use Rattle.arrayvec.specs.ArrayVec.{ArrayVec}
use Rattle.usb_port.specs.{path_cmp, PortState}
use Rattle.usb_device.specs.{tells_changes, change_bits, PollAt, NeverTold, State, Ports, full}
use Rattle.usb_device.specs.{row_of, place, reach, Location, path_to, reach_on, state_on}
use Rattle.usb_device.specs.{change_bytes, hub_ports, state_there, text_of, told_bits}
use Rattle.usb_world.specs.{EachWas, at_attempt, World}
use Rattle.usb_bus.specs.{StepRun}
use Rattle.usb_transfer.specs.{IsStatusEndpoint, NoThreeDamaged, Listens, transaction_bound}
use Rattle.usb_transfer.specs.{PipeState, write_bound, Interrupt, OutPipeInSync, InPipeInSync}
use Rattle.usb_transfer.specs.{PollTells, PipeFault}
use Rattle.usb_hub.specs.{MapHolds, TouchesNoPort, NoHubFailed}
use Rattle.usb_enum.specs.{Accepted, configuration_of, target_of}
use Rattle.usb_table.specs.declared.choice.EndpointChoice.{EndpointChoice}
use Rattle.usb_table.specs.declared.function_pipes.FunctionPipes.{FunctionPipes}
use Rattle.usb_table.specs.declared.pipes.Pipes.{Pipes}
use Rattle.usb_table.specs.declared.pipes.Pipes.TheVariants.{Hub, Function, Absent}
use Rattle.usb_table.specs.Findings.{accepted_device_at}
use Rattle.usb_table.specs.KnownPorts.{is_below_hub}
use Rattle.usb_table.specs.Listing.{entry_address}
use Rattle.usb_table.specs.PipeRows.{pipe_at}
use Rattle.usb_table.specs.Tables.{Table, pipes_at}
use Rattle.usb_table.specs.declared.fault.TableFault.{TableFault}
use Rattle.usb_table.specs.Transfers.{TableFaultAllowed, OnlyTransfers, PipesCleared}
use Rattle.usb_table.specs.Transfers.{PipesClearedOf, PipesPolled, PipesReceived, PipesReported}
use Rattle.usb_table.specs.Transfers.{PipesSent, PollTook}

-- The pipes to one device

-- a hub's status pipe, of which no poll failed: it is to the hub's status endpoint, which awaits
-- the pipe's toggle, and is not halted
pub record StatusPipeInSync (pipe : Interrupt) (s : State) : Type 0 where
  pub to : IsStatusEndpoint pipe.target pipe.ep s
  pub level : PollAt NeverTold pipe.toggle s
  pub runs : s.changes.halted ≡ false

-- an OUT pipe, if there is one
abbrev pub FitsOut : Option PipeState → State → Type 0
FitsOut None s = ⊤
FitsOut (Some pipe) s = OutPipeInSync pipe s

-- an IN pipe, if there is one, that has got what stands before some place
abbrev pub FitsIn : Option PipeState → State → Type 0
FitsIn None s = ⊤
FitsIn (Some pipe) s = (got : ℕ) × InPipeInSync pipe got s

-- all pipes to a function, of whose configuration the host has the text; each of its interfaces has
-- a setting
pub record FunctionInSync (device : Accepted) (pipes : FunctionPipes) (s : State) : Type 0 where
  pub text : text_of s.spec s.registers ≡ configuration_of device
  pub low : s.spec.low ≡ device.low
  pub quiet : tells_changes s.spec s.registers ≡ false
  pub settings : length s.registers.settings ≡ 256
  pub outs : (e : ℕ) → FitsOut (pipe_at false e pipes) s
  pub ins : (e : ℕ) → FitsIn (pipe_at true e pipes) s

abbrev pub PipesInSync : Accepted → Pipes → State → Type 0
PipesInSync device (Hub pipe) s = StatusPipeInSync pipe s
PipesInSync device (Function pipes) s = FunctionInSync device pipes s
PipesInSync device (Absent said) s = ⊤

-- those to what was found
abbrev pub PipesInSyncIf : Option Accepted → Pipes → State → Type 0
PipesInSyncIf None pipes s = ⊤
PipesInSyncIf (Some device) pipes s = PipesInSync device pipes s

-- The pipes of a table

-- those to the accepted device at a path, where that is reachable
pub record InSyncAt (path : List ℕ) (table : Table) (w : World) : Type 0 where
  pub level : (device : Accepted) (s : State) → accepted_device_at path table.entries ≡ Some device
      → reach w.roots path ≡ true → state_there w.roots path ≡ Some s
      → PipesInSync device (pipes_at path table) s

-- all pipes
abbrev pub AllInSync : Table → World → Type 0
AllInSync table w = (path : List ℕ) → InSyncAt path table w

-- each reachable device holds the address that the table has for its path
abbrev pub IsHeld : Table → World → Type 0
IsHeld table w = MapHolds (λ path. entry_address path table.entries) w

-- What a call through the pipes at a path leaves of all devices, and of the pipes: those to other
-- devices stay level in any case, and those at the path where it ends so
pub record KeepsLevels (Worlds : World → World → Type 0) (path : List ℕ) (ends : Type 0)
    (old : Table) (before : World) (new : Table) (after : World) : Type 0 where
  pub worlds : Worlds before after
  pub others : IsHeld old before → (x : List ℕ) → is_at (path_cmp path) x ≡ false
      → InSyncAt x old before → InSyncAt x new after
  pub itself : IsHeld old before → ends → InSyncAt path old before → InSyncAt path new after

abbrev pub KeepsInSync : List ℕ → Type 0 → Table → World → Table → World → Type 0
KeepsInSync = KeepsLevels OnlyTransfers

-- as long as the bus is at work
abbrev pub KeepsMoved : List ℕ → Table → World → Table → World → Type 0
KeepsMoved path old before new after = KeepsInSync path (after.fault ≡ None) old before new after

-- A poll of the hub at a path

-- the ports of the device at the path told these bits when an attempt was made, before and since
-- which nothing was asked of any port
pub record BitsOf (path : List ℕ) (old new : World) (bits : ℕ) : Type 0 where
  pub mid : World
  pub rests : TouchesNoPort old mid
  pub port : PortState
  pub state : State
  pub ports : Ports
  pub stood : place (at_attempt mid).roots path ≡ Some (full port state ports)
  pub told : bits ≡ change_bits (hub_ports state.spec.hub) (row_of ports)
  pub since : TouchesNoPort mid new
  pub came : (at_attempt mid).taken ≤ new.taken  -- the events that were due then have come

-- the hub is reached in the end, and its ports told what came, in as many bytes as they take
-- (11.12.4)
pub record HubTold (path : List ℕ) (old : World) (result : Result (Option (ArrayVec ℕ)) PipeFault)
    (new : World) : Type 0 where
  pub reached : reach new.roots path ≡ true
  pub tells : PollTells (BitsOf path old new) result
  pub bytes : (s : State) → state_there new.roots path ≡ Some s → IfOk result (λ got. IfSome got
      (λ packet. packet.items ≡ change_bytes (hub_ports s.spec.hub) (told_bits packet.items)))

-- a device at the path is reached, and hears what is sent to it
pub record IsListening (path : List ℕ) (device : Accepted) (w : World) : Type 0 where
  pub spot : Location
  pub state : State
  pub is : path ≡ path_to spot
  pub on : reach_on w.roots spot ≡ true
  pub stands : state_on w.roots spot ≡ Some state
  pub listens : Listens (target_of device (is_below_hub path)) spot state

-- nothing of a device changed but where its control transfer and its status endpoint stand: its
-- description, its registers, and its bulk endpoints with
-- what they took and gave are as they were
abbrev pub SparesBulk : Location → State → State → Type 0
SparesBulk x s v = v ≡ record s {
  memory = v.memory;
  naks = v.naks;
  stage = v.stage;
  changes =
      v.changes;
  held = v.held;
}

-- A poll that is done leaves the hub's pipe level, and tells of its ports. Where no three attempts
-- running are damaged, a hub that is reached in the
-- end is polled. Bulk endpoints are as they were.
pub record KeepsPolled (path : List ℕ) (old : Table) (before : World)
    (result : Result (Option (ArrayVec ℕ)) PipeFault) (new : Table) (after : World) : Type 0 where
  pub levels : KeepsInSync path (IsOk result) old before new after
  pub told : IsHeld old before → InSyncAt path old before → (device : Accepted)
      → accepted_device_at path old.entries ≡ Some device → is_some device.hub ≡ true → IsOk result
      → HubTold path before result after
  pub why : IsHeld old before → InSyncAt path old before → NoThreeDamaged before
      → (device : Accepted) → accepted_device_at path old.entries ≡ Some device
      → is_some device.hub ≡ true → IsListening path device after → NoHubFailed result
  pub spares : IsHeld old before → InSyncAt path old before → EachWas SparesBulk before after

-- What one call of the table is, over a bus that does what its world does

-- a transfer: how many attempts it made at most and the text of its steps, why it failed, what it
-- did through the pipes at the path, and what it left of all others
pub record Transferred {A : Type 0} (n : ℕ)
    (So : Pipes → World → Result A TableFault → Pipes → World → Type 0) (path : List ℕ)
    (old : Table) (before : World) (text : Option (List ℕ)) (result : Result A TableFault)
    (new : Table) (after : World) (now : Option (List ℕ)) : Type 0 where
  pub went : StepRun n before text after now
  pub told : IfErr result (λ fault. TableFaultAllowed fault after)
  pub did : So (pipes_at path old) before result (pipes_at path new) after
  pub keeps : KeepsMoved path old before new after

-- a call of this answer
abbrev pub Call : Type 0 → Type 1
Call A =
    Table → World → Option (List ℕ) → Result A TableFault → Table → World → Option (List ℕ)
    → Type 0

abbrev pub TableSends : List ℕ → EndpointChoice → List ℕ → Call (Unit {0})
TableSends path choice bytes =
    Transferred (transaction_bound * length bytes) (λ pipes. PipesSent choice pipes bytes) path

abbrev pub TableReceives : List ℕ → EndpointChoice → ℕ → Call (Vec ℕ)
TableReceives path choice packets =
    Transferred (transaction_bound * packets) (λ pipes. PipesReceived choice pipes packets) path

-- an endpoint is polled, by its address
abbrev pub TableReports : List ℕ → ℕ → Call (Option (ArrayVec ℕ))
TableReports path endpoint = Transferred transaction_bound (PipesReported endpoint) path

-- the halts of both first bulk endpoints are cleared
abbrev pub TableClears : List ℕ → Call (Unit {0})
TableClears = Transferred (2 * write_bound) PipesCleared

-- that of an endpoint is, by its address
abbrev pub TableClearsOf : List ℕ → ℕ → Call (Unit {0})
TableClearsOf path endpoint = Transferred write_bound (PipesClearedOf endpoint) path

-- a poll of the hub at the path
pub record TablePolls (path : List ℕ) (old : Table) (before : World) (text : Option (List ℕ))
    (result : Result (Option (ArrayVec ℕ)) PipeFault) (new : Table) (after : World)
    (now : Option (List ℕ)) : Type 0 where
  pub went : StepRun transaction_bound before text after now
  pub took : PollTook before result after
  pub polled : PipesPolled (pipes_at path old) before result (pipes_at path new) after
  pub keeps : KeepsPolled path old before result new after
