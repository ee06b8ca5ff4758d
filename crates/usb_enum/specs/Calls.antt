-- What calls at a port gave to an enumeration.
use Rattle.std.specs.Prelude.{◌≡◌, Bool, true, false, Option, None, Result, Ok}
use Rattle.usb_request.specs.{C_PORT_RESET}
use Rattle.usb_port.specs.{PortStatus, PortCall, clear_call}
use Rattle.usb_world.specs.{World}
use Rattle.usb_transfer.specs.{PipeFault}
use Rattle.usb_hub.specs.{HubPort, CommandsPort, ReadsPort, PortRead}
use Rattle.usb_enum.specs.declared.fault.EnumFault.{EnumFault}
use Rattle.usb_enum.specs.Losses.{NoNewStretch}
use Rattle.usb_enum.specs.Stops.{at_port}

-- a call at the port, and what its outcome is told as
pub record CalledAt (port : HubPort) (call : Option PortCall) (old : World)
    (result : Result (Unit {0}) EnumFault) (new : World) : Type 0 where
  pub outcome : Result (Unit {0}) PipeFault
  pub told : result ≡ at_port outcome
  pub calls : CommandsPort port call old outcome new
  pub goes : new.fault ≡ None → NoNewStretch old new

-- the same of its status
pub record StatusAt (port : HubPort) (old : World) (result : Result PortStatus EnumFault)
    (new : World) : Type 0 where
  pub outcome : Result PortStatus PipeFault
  pub told : result ≡ at_port outcome
  pub tells : ReadsPort port old outcome new
  pub read : PortRead port old outcome new
  pub goes : new.fault ≡ None → NoNewStretch old new

-- C_PORT_RESET was cleared, where it was told set
pub record SettlesReset (port : HubPort) (changed : Bool) (old : World)
    (result : Result (Unit {0}) EnumFault) (new : World) : Type 0 where
  pub unset : changed ≡ false → (result ≡ Ok tt) × (new ≡ old)
  pub set : changed ≡ true → CalledAt port (clear_call C_PORT_RESET) old result new
