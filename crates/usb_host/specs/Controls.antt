-- What control transfers of a driver's own to the device at a path are (8.5.3), as the host tells
-- them.
use Rattle.std.specs.Prelude.{◌≡◌, ℕ, List, Bool, false, Result, Ok, Err}
use Rattle.std.specs.Global.{Vec}
use Rattle.usb_request.specs.{Setup}
use Rattle.usb_transfer.specs.{Target, PipeFault}
use Rattle.usb_table.specs.{control_most, control_target, KeepsMoved, ReadLeft, ReadMade}
use Rattle.usb_table.specs.{TableFault, TransferFault, TransferIf, TransferIs, TransferLeaves}
use Rattle.usb_table.specs.{table_answer, WriteLeft, WriteMade, write_target}
use Rattle.usb_host.specs.declared.fault.HostFault.{HostFault}
use Rattle.usb_host.specs.declared.fault.HostFault.TheVariants.{Transfer}
use Rattle.usb_host.specs.HostCalls.{TransferTells, TransfersAnyBus}
use Rattle.usb_host.specs.HostStates.{HostState}
use Rattle.usb_host.specs.ToldFaults.{host_told}
use Rattle.usb_host.specs.Transfers.{table_in}

-- over any bus: where there is no target, this is told, and nothing changes; else the answer is the
-- transfer's own
abbrev pub AsksOrRefuses : {A : Type 0} → Result Target TransferFault → HostState
    → Result A HostFault → HostState → Type 0
AsksOrRefuses {A} (Ok target) old result new =
    (answer : Result A PipeFault) × (result ≡ host_told (table_answer answer))
AsksOrRefuses (Err fault) old result new = (result ≡ Err (Transfer fault)) × (new ≡ old)

-- unless the host had stopped
abbrev pub ControlsOrRefuses : {A : Type 0} → Result Target TransferFault → HostState
    → Result A HostFault → HostState → Type 0
ControlsOrRefuses target old result new = old.stopped ≡ false
    → AsksOrRefuses target old result new

pub record ControlsAnyBus {A : Type 0} (modelled : Bool) (target : Result Target TransferFault)
    (request : Setup) (old : HostState) (result : Result A HostFault) (new : HostState) : Type 0
  where
    pub calls : TransfersAnyBus modelled (control_most request.length) old result new
    pub refuses : ControlsOrRefuses target old result new

-- the transfer was made as the table says, and its answer is the host's; no pipe changes
pub record ControlsAt {A : Type 0} (Is : TransferIs A) (Leaves : TransferLeaves A) (path : List ℕ)
    (target : Result Target TransferFault) (old : HostState) (result : Result A HostFault)
    (new : HostState) : Type 0 where
  pub answer : Result A TableFault
  pub told : result ≡ host_told answer
  pub same : table_in new ≡ table_in old
  pub did : TransferIf Is Leaves path (table_in old) target old.world answer new.world
  pub keeps : KeepsMoved path (table_in old) old.world (table_in new) new.world

-- unless the host had stopped
abbrev pub ReadAt : List ℕ → Setup → HostState → Result (Vec ℕ) HostFault → HostState → Type 0
ReadAt path request old result new = old.stopped ≡ false
    → ControlsAt (ReadMade request) (ReadLeft request) path (control_target path old.entries) old
    result new

abbrev pub WrittenAt : List ℕ → Setup → List ℕ → HostState → Result (Unit {0}) HostFault
    → HostState → Type 0
WrittenAt path request bytes old result new = old.stopped ≡ false
    → ControlsAt (WriteMade request bytes) (WriteLeft request bytes) path
    (write_target path request old.entries) old result new

-- `control_in`
abbrev pub ReadTells : List ℕ → Setup → HostState → Result (Vec ℕ) HostFault → HostState → Type 0
ReadTells path request = TransferTells (control_most request.length) (ReadAt path request)

-- `control_out`
abbrev pub WriteTells : List ℕ → Setup → List ℕ → HostState → Result (Unit {0}) HostFault
    → HostState → Type 0
WriteTells path request bytes =
    TransferTells (control_most request.length) (WrittenAt path request bytes)
