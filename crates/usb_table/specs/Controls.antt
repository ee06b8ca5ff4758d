-- What control transfers of a driver's own to the device at a path are (8.5.3).
use Rattle.std.specs.Prelude.{◌≡◌, ℕ, ◌+◌, ◌*◌, ◌==◌, List, [], Bool, true, false, Option, Some}
use Rattle.std.specs.Prelude.{None}
use Rattle.std.specs.Prelude.{is_some, is_ok, Result, Ok, Err, IfOk, IfErr}
use Rattle.std.specs.Global.{Vec}
use Rattle.usb_request.specs.{Setup, is_reserved}
use Rattle.usb_device.specs.{reach}
use Rattle.usb_world.specs.{EachWas, Relation, World}
use Rattle.usb_bus.specs.{StepRun}
use Rattle.usb_transfer.specs.{Target, ControlRead, ControlWrite, DataWrite, DataWriteLeaves}
use Rattle.usb_transfer.specs.{PipeFault, ReadLeaves, WriteLeaves, write_bound}
use Rattle.usb_enum.specs.{Accepted, target_of}
use Rattle.usb_table.specs.declared.fault.TableFault.{TableFault}
use Rattle.usb_table.specs.declared.fault.TableFault.TheVariants.{Transfer}
use Rattle.usb_table.specs.declared.fault.TransferFault.{TransferFault}
use Rattle.usb_table.specs.declared.fault.TransferFault.TheVariants.{NoDevice, Reserved}
use Rattle.usb_table.specs.Deliveries.{ChangesAt}
use Rattle.usb_table.specs.Findings.{accepted_device_at}
use Rattle.usb_table.specs.KnownPorts.{is_below_hub}
use Rattle.usb_table.specs.Levels.{IsHeld, KeepsMoved}
use Rattle.usb_table.specs.TableEntries.{Entries}
use Rattle.usb_table.specs.Tables.{Table}
use Rattle.usb_table.specs.Transfers.{TableFaultAllowed, table_answer}

-- the most attempts of a control transfer of so many bytes
abbrev pub control_most : ℕ → ℕ
control_most length = write_bound + 100 * length

-- Whether a request is made

-- endpoint 0 of the device, if there is one
abbrev pub target_asked : Bool → Option Accepted → Result Target TransferFault
target_asked below_hub None = Err NoDevice
target_asked below_hub (Some device) = Ok (target_of device below_hub)

abbrev pub control_target : List ℕ → Entries → Result Target TransferFault
control_target path entries =
    target_asked (is_below_hub path) (accepted_device_at path entries)

-- the same for a request that writes, unless the host alone may send it
abbrev pub unreserved : Bool → Result Target TransferFault → Result Target TransferFault
unreserved true target = Err Reserved
unreserved false target = target

abbrev pub write_asked : Bool → Setup → Option Accepted → Result Target TransferFault
write_asked below_hub request None = Err NoDevice
write_asked below_hub request (Some device) =
    unreserved (is_reserved (is_some device.hub) request) (Ok (target_of device below_hub))

abbrev pub write_target : List ℕ → Setup → Entries → Result Target TransferFault
write_target path request entries =
    write_asked (is_below_hub path) request (accepted_device_at path entries)

-- over any bus: where there is no target, this is told, and nothing changes; else the answer is the
-- transfer's own
abbrev pub MadeOrRefused : {A W : Type 0} → Result Target TransferFault → W → Result A TableFault
    → W → Type 0
MadeOrRefused {A} (Ok target) old result new = (answer : Result A PipeFault)
    × (result ≡ table_answer answer)
MadeOrRefused (Err fault) old result new = (result ≡ Err (Transfer fault)) × (new ≡ old)

-- What was made

-- an answer without its bytes
abbrev pub without_bytes : {A : Type 0} → Result A PipeFault → Result (Unit {0}) PipeFault
without_bytes (Ok bytes) = Ok tt
without_bytes (Err why) = Err why

-- what a transfer is, and what it leaves of each device, by the target and its answer
abbrev pub TransferIs : Type 0 → Type 1
TransferIs A = Target → World → Result A PipeFault → World → Type 0

abbrev pub TransferLeaves : Type 0 → Type 1
TransferLeaves A = Target → Result A PipeFault → World → World → Relation

-- a request for no bytes has no data stage (9.3.5)
abbrev pub ReadIf : Bool → Setup → TransferIs (Vec ℕ)
ReadIf true request t old answer new = ControlWrite t request old (without_bytes answer) new
    × IfOk answer (λ bytes. bytes.items ≡ [])
ReadIf false request t old answer new = ControlRead t request old answer new

abbrev pub ReadMade : Setup → TransferIs (Vec ℕ)
ReadMade request = ReadIf (request.length == 0) request

abbrev pub ReadLeftIf : Bool → Setup → TransferLeaves (Vec ℕ)
ReadLeftIf true request t answer old new = WriteLeaves t request (without_bytes answer) old new
ReadLeftIf false request t answer old new = ReadLeaves t request answer old new

abbrev pub ReadLeft : Setup → TransferLeaves (Vec ℕ)
ReadLeft request = ReadLeftIf (request.length == 0) request

-- a request to write no bytes has no data stage
abbrev pub WriteIf : Bool → Setup → List ℕ → TransferIs (Unit {0})
WriteIf true request bytes t old answer new = ControlWrite t request old answer new
WriteIf false request bytes t old answer new = DataWrite t request bytes old answer new

abbrev pub WriteMade : Setup → List ℕ → TransferIs (Unit {0})
WriteMade request = WriteIf (request.length == 0) request

-- if it is done, the device has taken the bytes once; if it failed, all of them or none
abbrev pub WriteLeftIf : Bool → Setup → List ℕ → TransferLeaves (Unit {0})
WriteLeftIf true request bytes t answer old new = WriteLeaves t request answer old new
WriteLeftIf false request bytes t answer old new = DataWriteLeaves t request bytes answer old new

abbrev pub WriteLeft : Setup → List ℕ → TransferLeaves (Unit {0})
WriteLeft request = WriteLeftIf (request.length == 0) request

-- At a path

-- a transfer was made to a target: what it is, what it left of the device at the path, which is as
-- it was else where, and that this is reached where it is done
pub record TransferMade {A : Type 0} (Is : TransferIs A) (Leaves : TransferLeaves A)
    (path : List ℕ) (table : Table) (target : Target) (old : World) (result : Result A TableFault)
    (new : World) : Type 0 where
  pub answer : Result A PipeFault
  pub told : result ≡ table_answer answer
  pub is : Is target old answer new
  pub left : IsHeld table old → new.shared ≡ false
      → EachWas (λ x. ChangesAt path (Leaves target answer old new x) x) old new
  pub there : IsHeld table old → new.shared ≡ false → is_ok answer ≡ true
      → reach new.roots path ≡ true

abbrev pub TransferIf : {A : Type 0} → TransferIs A → TransferLeaves A → List ℕ → Table
    → Result Target TransferFault → World → Result A TableFault → World → Type 0
TransferIf Is Leaves path table (Ok target) old result new =
    TransferMade Is Leaves path table target old result new
TransferIf Is Leaves path table (Err fault) old result new =
    (result ≡ Err (Transfer fault)) × (new ≡ old)

-- a control transfer to the device at a path: how many attempts it made at most and the text of its
-- steps, why it failed, what it was, and what it left of all devices
pub record ControlledAt {A : Type 0} (Is : TransferIs A) (Leaves : TransferLeaves A) (path : List ℕ)
    (target : Result Target TransferFault) (request : Setup) (table : Table) (before : World)
    (text : Option (List ℕ)) (result : Result A TableFault) (after : World)
    (now : Option (List ℕ)) : Type 0 where
  pub went : StepRun (control_most request.length) before text after now
  pub told : IfErr result (λ fault. TableFaultAllowed fault after)
  pub did : TransferIf Is Leaves path table target before result after
  pub keeps : KeepsMoved path table before table after

-- a read of it
abbrev pub TableReads : List ℕ → Setup → Table → World → Option (List ℕ)
    → Result (Vec ℕ) TableFault → World → Option (List ℕ) → Type 0
TableReads path request table = ControlledAt (ReadMade request) (ReadLeft request) path
    (control_target path table.entries) request table

-- a write to it
abbrev pub TableWrites : List ℕ → Setup → List ℕ → Table → World → Option (List ℕ)
    → Result (Unit {0}) TableFault → World → Option (List ℕ) → Type 0
TableWrites path request bytes table = ControlledAt (WriteMade request bytes)
    (WriteLeft request bytes) path (write_target path request table.entries) request table
