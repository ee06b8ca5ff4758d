-- The endpoints that a device keeps from SET_CONFIGURATION on (9.4.7).
use Rattle.std.specs.Prelude.{◌≡◌, ◌==◌, true, false, length, is_some}
use Rattle.usb_descriptor.specs.{IsTableOf}
use Rattle.usb_function.specs.declared.bulk.ServedEndpoints.{ServedEndpoints}
use Rattle.usb_device.specs.{Registers, Spec, bulk_at, served_at, status_number}

-- they are those that the text of the configuration describes; where the device has a source the
-- first bulk IN endpoint is known, and of a hub the number of the status endpoint
pub record AreServed (s : Spec) (g : Registers) (kept : ServedEndpoints) : Type 0 where
  pub first_in : (length s.source == 0) ≡ false → kept.bulk_in ≡ bulk_at s g true
  pub each : IsTableOf (served_at s g) kept.table
  pub status : is_some s.hub ≡ true → kept.status ≡ status_number s g
