-- What clears changes that ask for nothing else. A hub that does not know a feature answers STALL
-- to its clearing, and has no such change; the status each hub has to know.
use Rattle.std.specs.Prelude.{◌≡◌, ℕ, List, Bool, true, false, slice_index, Result, Ok, Err}
use Rattle.usb_request.specs.{C_HUB_LOCAL_POWER, C_HUB_OVER_CURRENT, Setup, get_hub_status}
use Rattle.usb_request.specs.{clear_hub_feature, clear_port_feature}
use Rattle.usb_port.specs.{has_bit}
use Rattle.usb_world.specs.{BusFault, World, HasFault}
use Rattle.usb_transfer.specs.{Target, PipeFault}
use Rattle.usb_transfer.specs.declared.fault.PipeFault.TheVariants.{Stalled, Busy, NoAnswer, Broken}
use Rattle.usb_transfer.specs.declared.fault.PipeFault.TheVariants.{Bus, Memory}
use Rattle.usb_hub.specs.declared.port.HubPort.{HubPort}
use Rattle.usb_hub.specs.declared.port.HubPort.TheVariants.{Root, External}
use Rattle.usb_hub.specs.declared.status.HubStatus.{HubStatus}
use Rattle.usb_hub.specs.Requests.{Commanded, ReadAs}

-- where the bus gave up, it tells its fault
abbrev pub ToldBus : Result (Unit {0}) PipeFault → World → Type 0
ToldBus result w = (fault : BusFault) → result ≡ Err (Bus fault) → HasFault fault w

-- a STALL counts as done
abbrev pub done_or_unknown : Result (Unit {0}) PipeFault → Result (Unit {0}) PipeFault
done_or_unknown (Ok done) = Ok done
done_or_unknown (Err Stalled) = Ok tt
done_or_unknown (Err Busy) = Err Busy
done_or_unknown (Err NoAnswer) = Err NoAnswer
done_or_unknown (Err Broken) = Err Broken
done_or_unknown (Err (Bus fault)) = Err (Bus fault)
done_or_unknown (Err Memory) = Err Memory

-- a hub was ordered to clear a change
pub record ClearsHubChange (hub : Target) (request : Setup) (old : World)
    (result : Result (Unit {0}) PipeFault) (new : World) : Type 0 where
  pub answer : Result (Unit {0}) PipeFault
  pub ordered : Commanded hub request old answer new
  pub is : result ≡ done_or_unknown answer

-- a change of a port; those of the root have none
abbrev pub ClearsOfPort : HubPort → ℕ → World → Result (Unit {0}) PipeFault → World → Type 0
ClearsOfPort (Root number) feature old result new = (result ≡ Ok tt) × (new ≡ old)
ClearsOfPort (External hub port) feature old result new =
    ClearsHubChange hub (clear_port_feature feature port) old result new

-- a change of a hub, where it was told
abbrev pub ClearsIfReported : Bool → Target → ℕ → World → Result (Unit {0}) PipeFault → World
    → Type 0
ClearsIfReported true hub feature old result new =
    ClearsHubChange hub (clear_hub_feature feature) old result new
ClearsIfReported false hub feature old result new = (result ≡ Ok tt) × (new ≡ old)

-- wHubChange, of which the low byte is the third of four (11.24.2.6)
abbrev pub hub_status : List ℕ → HubStatus
hub_status bytes = record {
  power_changed = has_bit (slice_index bytes 2) 0;
  over_current_changed = has_bit (slice_index bytes 2) 1;
}

-- each change that was told was cleared, up to a request that failed
pub data ClearsEach (status : HubStatus) (hub : Target) (old : World)
    (result : Result (Unit {0}) PipeFault) (new : World) : Type 0 where
  first_failed : (fault : PipeFault) → ClearsIfReported status.power_changed hub C_HUB_LOCAL_POWER
      old (Err fault) new → result ≡ Err fault → ClearsEach status hub old result new
  both : (mid : World) → ClearsIfReported status.power_changed hub C_HUB_LOCAL_POWER old (Ok tt) mid
      → ClearsIfReported status.over_current_changed hub C_HUB_OVER_CURRENT mid result new
      → ClearsEach status hub old result new

-- a hub was asked for its status, and each change that it told was cleared; a fault of the status
-- is the call's, also a STALL
pub data ClearsOfHub (hub : Target) (old : World) (result : Result (Unit {0}) PipeFault)
    (new : World) : Type 0 where
  not_told : (fault : PipeFault) → ReadAs hub_status hub get_hub_status old (Err fault) new
      → result ≡ Err fault → ClearsOfHub hub old result new
  told : (status : HubStatus) (mid : World)
      → ReadAs hub_status hub get_hub_status old (Ok status) mid
      → ClearsEach status hub mid result new → ClearsOfHub hub old result new
