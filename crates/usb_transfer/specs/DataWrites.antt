-- A control transfer with data to the device: what it leaves of each device (8.5.3).
use Rattle.std.specs.Prelude.{◌≡◌, ◌⊎◌, ℕ, List, ◌++◌, true, false, Result, Ok, Err}
use Rattle.usb_port.specs.{PortState}
use Rattle.usb_request.specs.{Setup}
use Rattle.usb_world.specs.{Course, World}
use Rattle.usb_device.specs.{State, Location, Stage, first_stage, first_write, outcome, writing}
use Rattle.usb_device.specs.{OnlyWrite, refused as stage_refused}
use Rattle.usb_transfer.specs.declared.target.Target.{Target}
use Rattle.usb_transfer.specs.TransactionLeaves.{is_at}
use Rattle.usb_transfer.specs.declared.fault.PipeFault.{PipeFault}
use Rattle.usb_transfer.specs.declared.fault.PipeFault.TheVariants.{Stalled}
use Rattle.usb_transfer.specs.Leaves.{AcceptedIn, CanEnd, IsBehindData}

-- the stage that the request begins in a device with these ports
abbrev pub stage_begun : List PortState → Setup → State → Stage
stage_begun row request s =
    first_stage row s request.length (outcome s.spec s.registers request)

-- the device accepted the request at a moment of the call; only its data and its status stage were
-- attempted since
pub record DataMoment (t : Target) (request : Setup) (old new : World) (x : Location)
    (row : List PortState) (s : State) : Type 0 where
  pub now : World
  pub accepts : AcceptedIn t request old now x row s
  pub since : Course (IsBehindData t) now new

-- the device keeps the data of such a request, and has taken these, all of them, in order and once
pub record DataTaken (t : Target) (request : Setup) (bytes : List ℕ) (old new : World)
    (x : Location) (s v : State) : Type 0 where
  pub row : List PortState
  pub moment : DataMoment t request old new x row s
  pub is : stage_begun row request s ≡ writing (first_write request.length true)
  pub taken : v.taken ≡ s.taken ++ bytes

-- the device refused the request, or its data when all had come
pub record DataRefused (t : Target) (request : Setup) (old new : World) (x : Location) (s : State) :
    Type 0 where
  pub row : List PortState
  pub moment : DataMoment t request old new x row s
  pub is : (stage_begun row request s ≡ stage_refused)
      ⊎ (stage_begun row request s ≡ writing (first_write request.length false))

-- a request with data to the device: if it failed, the device has taken all of the data or none
pub record DataWriteLeaves (t : Target) (request : Setup) (bytes : List ℕ)
    (result : Result (Unit {0}) PipeFault) (old new : World) (x : Location) (s v : State) : Type 0
  where
    pub others : is_at s t ≡ false → v ≡ s
    pub frame : OnlyWrite s v
    pub done : is_at s t ≡ true → (u : Unit {0}) → result ≡ Ok u
        → DataTaken t request bytes old new x s v
    pub failed : (v.taken ≡ s.taken) ⊎ (v.taken ≡ s.taken ++ bytes)
    pub refused : is_at s t ≡ true → result ≡ Err Stalled → DataRefused t request old new x s
    pub could : is_at s t ≡ true → CanEnd s.spec result
