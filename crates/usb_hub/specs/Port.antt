-- What the calls on a port leave.
use Rattle.std.specs.Prelude.{◌≡◌, ℕ, ◌+◌, ◌≤◌, Bool, List, Option, true, Result, Ok, IsOk}
use Rattle.usb_request.specs.{PORT_RESET, C_PORT_CONNECTION, get_port_status, set_port_feature}
use Rattle.usb_request.specs.{clear_port_feature}
use Rattle.usb_port.specs.{IsPortNumber, seen, status_in, PortStatus}
use Rattle.usb_world.specs.{World, IsRootPort, AttemptsWithin, root_row, roots_of, to_come}
use Rattle.usb_world.specs.{root_port_at, changes, SetsRoot, ClearsRoot}
use Rattle.usb_bus.specs.{Traced, Steps}
use Rattle.usb_transfer.specs.{IsTarget, PipeFault, control_bound, write_bound}
use Rattle.usb_hub.specs.declared.port.HubPort.{HubPort}
use Rattle.usb_hub.specs.declared.port.HubPort.TheVariants.{Root, External}
use Rattle.usb_hub.specs.Requests.{ReadAs, Commanded}

-- a port of the root, or one that a hub may have
abbrev pub IsPort : World → HubPort → Type 0
IsPort w (Root number) = IsRootPort w number
IsPort w (External hub port) = IsTarget hub × IsPortNumber port

-- the same where the bus does what its world does; of another only what a hub may have
abbrev pub IsAsked : Bool → World → HubPort → Type 0
IsAsked modelled w (Root number) = modelled ≡ true → IsRootPort w number
IsAsked modelled w (External hub port) = IsTarget hub × IsPortNumber port

-- the most attempts of a status and of an order; a root port is a register
abbrev pub status_bound : HubPort → ℕ
status_bound (Root number) = 0
status_bound (External hub port) = control_bound hub.max 4

abbrev pub order_bound : HubPort → ℕ
order_bound (Root number) = 0
order_bound (External hub port) = write_bound

-- the answer is what the port's status says of it, and nothing has changed
pub record RootRead (number : ℕ) (old : World) (result : Result PortStatus PipeFault)
    (new : World) : Type 0 where
  pub status : result ≡ Ok (seen (root_port_at old number))
  pub same : new ≡ old

-- no attempt was made and no event applied
pub record TakesNoTime (old new : World) : Type 0 where
  pub attempts : new.attempts ≡ old.attempts
  pub limit : new.limit ≡ old.limit
  pub taken : new.taken ≡ old.taken
  pub left : new.left ≡ old.left
  pub fault : new.fault ≡ old.fault
  pub roots : roots_of new ≡ roots_of old

pub record RootSet (number feature : ℕ) (old : World) (result : Result (Unit {0}) PipeFault)
    (new : World) : Type 0 where
  pub done : IsOk result
  pub row : SetsRoot number feature old new
  pub quiet : TakesNoTime old new
  -- PORT_RESET sets no C_PORT_CONNECTION, PORT_POWER at most this port's
  pub resets : feature ≡ PORT_RESET → AttemptsWithin 0 old new
  pub powers : changes (root_row new) ≤ changes (root_row old) + 1

pub record RootCleared (number feature : ℕ) (old : World) (result : Result (Unit {0}) PipeFault)
    (new : World) : Type 0 where
  pub done : IsOk result
  pub row : ClearsRoot number feature old new
  pub quiet : TakesNoTime old new
  pub count : AttemptsWithin 0 old new
  -- a set C_PORT_CONNECTION that is cleared is one less
  pub served : feature ≡ C_PORT_CONNECTION → (root_port_at old number).connection_changed ≡ true
      → changes (root_row new) + to_come new + 1 ≡ changes (root_row old) + to_come old

-- the set of a port's feature as a course of the bus: PORT_RESET sets no C_PORT_CONNECTION of the
-- root, PORT_POWER may
abbrev pub SetSteps : {S : Type 0} → (S → World) → (S → Option (List ℕ)) → HubPort → ℕ → ℕ → S → S
    → Type 0
SetSteps world trace (Root number) feature n old new =
    Traced (world old) (trace old) (world new) (trace new)
    × (feature ≡ PORT_RESET → AttemptsWithin n (world old) (world new))
SetSteps world trace (External hub port) feature n old new = Steps world trace n old new

abbrev pub PortRead : HubPort → World → Result PortStatus PipeFault → World → Type 0
PortRead (Root number) old result new = RootRead number old result new
PortRead (External hub port) old result new = ReadAs status_in hub (get_port_status port) old result
    new

abbrev pub PortSet : HubPort → ℕ → World → Result (Unit {0}) PipeFault → World → Type 0
PortSet (Root number) feature old result new = RootSet number feature old result new
PortSet (External hub port) feature old result new =
    Commanded hub (set_port_feature feature port) old result new

abbrev pub PortCleared : HubPort → ℕ → World → Result (Unit {0}) PipeFault → World → Type 0
PortCleared (Root number) feature old result new = RootCleared number feature old result new
PortCleared (External hub port) feature old result new =
    Commanded hub (clear_port_feature feature port) old result new
