-- Steps of a driver's calls, and what tests on their answers say.
use Rattle.std.proofs.Common.{◌≡◌, ℕ, List, Bool, true, Option, Result, Err, refl}
use Rattle.std.specs.Global.{Vec}
use Rattle.usb_table.specs.declared.fault.TransferFault.TheVariants.{Stalled}
use Rattle.usb_host.specs.{HostFault, HostState}
use Rattle.usb_host.specs.declared.fault.HostFault.TheVariants.{Transfer}
use Rattle.usb_class_drivers.specs.declared.fault.DriverFault.{DriverFault}
use Rattle.usb_class_drivers.specs.declared.fault.DriverFault.TheVariants.{Failed}
use Rattle.usb_class_drivers.specs.declared.transport.Transport.{Transport}
use Rattle.usb_class_drivers.specs.{is_failed, is_stalled, Collects, Concludes, Gives}
use Rattle.usb_class_drivers.specs.{with_next_tag}
use Rattle.usb_class_drivers.specs.Transports.{at_once, not_cleared, once_more, was_halted}
use Rattle.usb_class_drivers.specs.Transports.{was_received, was_refused, was_sent}

-- what was tested for is so
pub stalled_is : {A : Type 0} (told : Result A HostFault) → is_stalled told ≡ true
    → told ≡ Err (Transfer Stalled)
stalled_is (Err (Transfer Stalled)) so = refl
stalled_is _ so = cc so

pub failed_is : {A : Type 0} (told : Result A DriverFault) → is_failed told ≡ true
    → told ≡ Err Failed
failed_is (Err Failed) so = refl
failed_is _ so = cc so

-- the steps after a command are the same with the next tag
pub collects_of : (disk : Transport) {modelled : Bool} {bytes : ℕ} {old new : HostState}
    {result : Result (Option (Vec ℕ)) HostFault}
    → Collects modelled (with_next_tag disk) bytes old result new
    → Collects modelled disk bytes old result new
collects_of disk (was_received received receives moved is) =
    was_received received receives moved is
collects_of disk (was_halted mid cleared receives clears is) =
    was_halted mid cleared receives clears is

pub gives_of : (disk : Transport) {modelled : Bool} {bytes : List ℕ} {old new : HostState}
    {result : Result Bool HostFault} → Gives modelled (with_next_tag disk) bytes old result new
    → Gives modelled disk bytes old result new
gives_of disk (was_sent sent sends moved is) = was_sent sent sends moved is
gives_of disk (was_refused mid cleared sends clears is) = was_refused mid cleared sends clears is

pub concludes_of : (disk : Transport) {modelled : Bool} {old new : HostState}
    {result : Result (Vec ℕ) HostFault} → Concludes modelled (with_next_tag disk) old result new
    → Concludes modelled disk old result new
concludes_of disk (at_once receives moved) = at_once receives moved
concludes_of disk (once_more mid cleared first clears again) =
    once_more mid cleared first clears again
concludes_of disk (not_cleared mid fault first clears is) = not_cleared mid fault first clears is
