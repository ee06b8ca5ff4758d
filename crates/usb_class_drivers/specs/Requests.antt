-- Requests of a device's class to an interface of it (9.3).
use Rattle.std.specs.Prelude.{ℕ}
use Rattle.usb_request.specs.{Setup}

-- one that writes: to an interface, with no data or data to the device
abbrev pub class_request : ℕ → ℕ → ℕ → ℕ → Setup
class_request interface request value length = record {
  request_type = 0x21;
  request = request;
  value = value;
  index = interface;
  length = length;
}
