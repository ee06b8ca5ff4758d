-- After which calls the bus still works.
use Rattle.std.proofs.Common.{arith, ℕ, Result, Err}
use Rattle.usb_port.specs.{PortStatus}
use Rattle.usb_world.specs.{World}
use Rattle.usb_transfer.specs.{Target, PipeFault, FaultAfter}
use Rattle.usb_hub.specs.{HubPort, EndsAfter, WorksAfter, PortRead, PortSet, PortCleared}
use Rattle.usb_hub.specs.{ClearsOfPort, ClearsOfHub}

pub failed_works : (A : Type 0) (n : ℕ) (why : PipeFault) (old new : World)
    → FaultAfter n old why new → WorksAfter {A = A} (Err why) old new
failed_works A n why old new ends = grind arith

pub ended_works : {A : Type 0} (least : ℕ) (result : Result A PipeFault) (old new : World)
    → EndsAfter least old result new → WorksAfter result old new
ended_works least result old new ends = grind arith

-- Calls at ports

pub read_works : (port : HubPort) (result : Result PortStatus PipeFault) (old new : World)
    → PortRead port old result new → WorksAfter result old new
read_works port result old new read = grind arith

pub set_works : (port : HubPort) (feature : ℕ) (result : Result (Unit {0}) PipeFault)
    (old new : World) → PortSet port feature old result new → WorksAfter result old new
set_works port feature result old new set = grind arith

pub clear_works : (port : HubPort) (feature : ℕ) (result : Result (Unit {0}) PipeFault)
    (old new : World) → PortCleared port feature old result new → WorksAfter result old new
clear_works port feature result old new cleared = grind arith

-- Changes that ask for nothing else

pub port_change_works : (port : HubPort) (feature : ℕ) (result : Result (Unit {0}) PipeFault)
    (old new : World) → ClearsOfPort port feature old result new → WorksAfter result old new
port_change_works port feature result old new cleared = grind arith

pub hub_change_works : (hub : Target) (result : Result (Unit {0}) PipeFault) (old new : World)
    → ClearsOfHub hub old result new → WorksAfter result old new
hub_change_works hub result old new h = grind arith
