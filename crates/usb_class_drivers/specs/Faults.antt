-- What a call of the host gave, as a driver reports it.
use Rattle.std.specs.Prelude.{Bool, true, false, Result, Ok, Err}
use Rattle.usb_table.specs.declared.fault.TransferFault.TheVariants.{Stalled}
use Rattle.usb_host.specs.{HostFault}
use Rattle.usb_host.specs.declared.fault.HostFault.TheVariants.{Transfer}
use Rattle.usb_class_drivers.specs.declared.fault.DriverFault.{DriverFault}
use Rattle.usb_class_drivers.specs.declared.fault.DriverFault.TheVariants.{Host}

abbrev pub driver_told : {A : Type 0} → Result A HostFault → Result A DriverFault
driver_told (Ok done) = Ok done
driver_told (Err fault) = Err (Host fault)

-- it answered STALL
abbrev pub is_stalled : {A : Type 0} → Result A HostFault → Bool
is_stalled (Err (Transfer Stalled)) = true
is_stalled _ = false
