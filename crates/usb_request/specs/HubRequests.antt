-- The requests to a hub as a whole (11.24.2).
use Rattle.std.specs.Prelude.{ℕ}
use Rattle.usb_request.specs.Codes.{GET_STATUS, CLEAR_FEATURE, HUB_IN}
use Rattle.usb_request.specs.declared.setup.Setup.{Setup}

-- bmRequestType: to the device, class, device (table 9-2)
abbrev pub HUB_OUT : ℕ
HUB_OUT = 0x20

unfoldable pub get_hub_status : Setup
get_hub_status = record {
  request_type = HUB_IN;
  request = GET_STATUS;
  value = 0;
  index = 0;
  length = 4;
}

unfoldable pub clear_hub_feature : ℕ → Setup
clear_hub_feature feature = record {
  request_type = HUB_OUT;
  request = CLEAR_FEATURE;
  value =
      feature;
  index = 0;
  length = 0;
}
