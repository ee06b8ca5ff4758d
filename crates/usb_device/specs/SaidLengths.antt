-- How long a device's configurations say that they are (9.6.3).
use Rattle.std.specs.Prelude.{ℕ, List, take}
use Rattle.std.specs.List.{sum_by}
use Rattle.usb_request.specs.{CONFIGURATION_LENGTH}
use Rattle.usb_descriptor.specs.{config_head_of, total_in}
use Rattle.usb_device.specs.DeviceSpecs.{Spec}

-- wTotalLength of a text whose first 9 bytes are a configuration's head, else 0
unfoldable pub said_length : List ℕ → ℕ
said_length text = total_in (config_head_of (take CONFIGURATION_LENGTH text))

-- the sum over a device's texts
unfoldable pub said_lengths : Spec → ℕ
said_lengths spec = sum_by said_length spec.configs
