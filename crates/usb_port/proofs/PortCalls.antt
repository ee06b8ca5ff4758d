-- The calls of a port, by their features.
use Rattle.std.proofs.Common.{◌≡◌, ℕ, true, false, Option, None, Some, is_some, refl, arith}
use Rattle.usb_port.specs.{PortCall, clear_call, is_reset}

-- a call that is there
pub call_is : (o : Option PortCall) → is_some o ≡ true → (c : PortCall) × (o ≡ Some c)
call_is None h = grind arith
call_is (Some c) h = (c, refl)

-- clearing a feature resets nothing
pub clear_no-reset : (feature : ℕ) (c : PortCall) → clear_call feature ≡ Some c → is_reset c ≡ false
clear_no-reset feature c h = grind arith
