-- What a typed request leaves, and what its answer says.
use Rattle.std.specs.Prelude.{◌≡◌, ◌≢◌, ℕ, ◌≤◌, ◌==◌, true, false, if◌then◌else◌, List, length}
use Rattle.std.specs.Prelude.{slice_index, Option, Some, None, Result, Ok, Err, IfOk, MatchResult}
use Rattle.std.specs.Global.{Vec}
use Rattle.usb_request.specs.{Setup, PORT_OUT, SET_FEATURE}
use Rattle.usb_world.specs.{IsSettled, BusFault, is_harmless, asks_no_port, is_above}
use Rattle.usb_world.specs.{LeavesPortAlone, Course, World}
use Rattle.usb_transfer.specs.{Target, AttemptsMade, BusToldIt, PipeFault, FaultAfter, Reads}
use Rattle.usb_transfer.specs.{Writes, IsNoBusFault}
use Rattle.usb_port.specs.{has_bit}
use Rattle.usb_hub.specs.Claims.{AddressMap}
use Rattle.usb_hub.specs.Ownership.{MapHolds}
use Rattle.usb_hub.specs.Marks.{KeepsAll}
use Rattle.usb_device.specs.{Is}
use Rattle.usb_transfer.specs.declared.fault.PipeFault.TheVariants.{Stalled, Memory}
use Rattle.usb_hub.specs.declared.status.DeviceStatus.{DeviceStatus}

-- how few attempts came before each end of a request that takes so many transactions at least
abbrev pub EndsAfter : {A : Type 0} → ℕ → World → Result A PipeFault → World → Type 0
EndsAfter least old result new = MatchResult result (λ done. AttemptsMade least old new)
    (λ fault. FaultAfter 1 old fault new)

-- the bus works in the new world, if it did in the old one
abbrev pub StillWorks : World → World → Type 0
StillWorks old new = old.fault ≡ None → new.fault ≡ None

-- so it is after a call, unless that reports a fault of the bus
abbrev pub WorksAfter : {A : Type 0} → Result A PipeFault → World → World → Type 0
WorksAfter result old new = IsNoBusFault result → StillWorks old new

-- over these steps nothing is asked of any port
abbrev pub TouchesNoPort : World → World → Type 0
TouchesNoPort w v = (x : List ℕ) → Course (LeavesPortAlone x) w v

-- where a path claims the address, nothing is asked of the ports that are not below it
abbrev pub TouchesPortsBelow : ℕ → World → World → Type 0
TouchesPortsBelow address w v = (f : AddressMap) (q : List ℕ) → f q ≡ Some address → MapHolds f w
    → (x : List ℕ) → is_above q x ≡ false → Course (LeavesPortAlone x) w v

-- over any bus: a fault of the bus is the one that it reported last, and an answer has so many
-- bytes at most
pub record ToldWithin (most : ℕ) (answer : Result (Vec ℕ) PipeFault) (last : Option BusFault)
    : Type 0 where
  pub told : BusToldIt answer last
  pub within : IfOk answer (λ bytes. length bytes.items ≤ most)

-- a target was asked for data: how few attempts were made, and which they were; no more bytes came
-- than the request says, and nothing
-- was asked of any port
pub record Queried (target : Target) (request : Setup) (old : World)
    (answer : Result (Vec ℕ) PipeFault) (new : World) : Type 0 where
  pub settled : IsSettled old.roots
  pub ends : EndsAfter 3 old answer new
  pub stages : Reads target request old answer new
  pub most : IfOk answer (λ bytes. length bytes.items ≤ request.length)
  pub rests : IsNoBusFault answer → TouchesNoPort old new
  pub backlog : IsNoBusFault answer → KeepsAll old new

-- a target was ordered to do what has no data
pub record Commanded (target : Target) (request : Setup) (old : World)
    (result : Result (Unit {0}) PipeFault) (new : World) : Type 0 where
  pub settled : IsSettled old.roots
  pub ends : EndsAfter 2 old result new
  pub stages : Writes target request old result new
  pub room : result ≢ Err Memory
  -- a request that is not about ports asks nothing of any
  pub rests : asks_no_port request ≡ true → IsNoBusFault result → TouchesNoPort old new
  pub backlog : Is request PORT_OUT SET_FEATURE ≡ false → IsNoBusFault result → KeepsAll old new
  -- one that resets no port asks nothing but of ports below the target's device
  pub elsewhere : is_harmless request ≡ true → IsNoBusFault result
      → TouchesPortsBelow target.addr old new

-- what an answer says that is to have so many bytes: one of another length is told as a stall
abbrev pub said_in : {A : Type 0} → (List ℕ → A) → ℕ → Result (Vec ℕ) PipeFault → Result A PipeFault
said_in read size (Ok bytes) = if length bytes.items == size then Ok (read bytes.items) else Err
    Stalled
said_in read size (Err fault) = Err fault

-- a target was asked for data of just so many bytes as the request says, and what is told is what
-- they say
pub record ReadAs {A : Type 0} (read : List ℕ → A) (target : Target) (request : Setup) (old : World)
    (result : Result A PipeFault) (new : World) : Type 0 where
  pub answer : Result (Vec ℕ) PipeFault
  pub asked : Queried target request old answer new
  pub told : result ≡ said_in read request.length answer
  pub ends : EndsAfter 3 old result new

-- a device's status: two bytes, of which the second is 0 (9.4.5)
abbrev pub device_status : List ℕ → DeviceStatus
device_status bytes = record {
  self_powered = has_bit (slice_index bytes 0) 0;
  remote_wakeup = has_bit (slice_index bytes 0) 1;
}
