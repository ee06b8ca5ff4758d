-- Why a call at a hub's port fails.
use Rattle.std.specs.Prelude.{◌≡◌, ◌≢◌, ℕ, ◌≤◌, true, false, Some, Result, Ok, Err, ⊤}
use Rattle.usb_device.specs.{State, Spec, Hub, IsSpec, Location, reach_on, state_on}
use Rattle.usb_world.specs.{World}
use Rattle.usb_transfer.specs.{Target, Listens, PipeFault}
use Rattle.usb_transfer.specs.declared.fault.PipeFault.TheVariants.{Stalled, Busy, NoAnswer, Broken}
use Rattle.usb_transfer.specs.declared.fault.PipeFault.TheVariants.{Bus, Memory}

-- the description is a hub's, which is not always busy, is as the rules say, and has the port
pub record HasPort (spec : Spec) (number : ℕ) : Type 0 where
  pub hub : Hub
  pub is : spec.hub ≡ Some hub
  pub least : 1 ≤ number
  pub most : number ≤ hub.ports
  pub idle : spec.busy ≡ false
  pub ruled : IsSpec spec

-- a configured hub with an address is reached, hears its target, and has the port
pub record HubServes (target : Target) (number : ℕ) (w : World) : Type 0 where
  pub spot : Location
  pub state : State
  pub on : reach_on w.roots spot ≡ true
  pub stands : state_on w.roots spot ≡ Some state
  pub listens : Listens target spot state
  pub addressed : target.addr ≢ 0
  pub configured : state.registers.configuration ≢ 0
  pub has : HasPort state.spec number

-- no hub failed: the call is done, or the bus gave up, or there was no memory
abbrev pub NoHubFailed : {A : Type 0} → Result A PipeFault → Type 0
NoHubFailed (Ok x) = ⊤
NoHubFailed (Err Stalled) = ⊥
NoHubFailed (Err Busy) = ⊥
NoHubFailed (Err NoAnswer) = ⊥
NoHubFailed (Err Broken) = ⊥
NoHubFailed (Err (Bus fault)) = ⊤
NoHubFailed (Err Memory) = ⊤
