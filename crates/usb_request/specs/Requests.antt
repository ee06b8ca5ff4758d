-- The requests that the host sends (9.4, 11.24.2).
use Rattle.std.specs.Prelude.{ℕ, ◌+◌, ◌*◌}
use Rattle.usb_request.specs.Codes.{DEVICE, CONFIGURATION, STRING, HUB, HUB_LENGTH, GET_STATUS}
use Rattle.usb_request.specs.Codes.{CLEAR_FEATURE, SET_FEATURE, SET_ADDRESS, GET_DESCRIPTOR}
use Rattle.usb_request.specs.Codes.{SET_CONFIGURATION, SET_INTERFACE, DEVICE_IN, DEVICE_OUT}
use Rattle.usb_request.specs.Codes.{INTERFACE_OUT, ENDPOINT_OUT, HUB_IN, PORT_IN, PORT_OUT}
use Rattle.usb_request.specs.Features.{ENDPOINT_HALT}
use Rattle.usb_request.specs.declared.setup.Setup.{Setup}

-- wValue of GET_DESCRIPTOR: the type in the high byte, the index in the low one (9.4.3)
abbrev pub descriptor_value : ℕ → ℕ → ℕ
descriptor_value type index = 256 * type + index

unfoldable pub get_device_descriptor : ℕ → Setup
get_device_descriptor length = record {
  request_type = DEVICE_IN;
  request = GET_DESCRIPTOR;
  value =
      descriptor_value DEVICE 0;
  index = 0;
  length = length;
}

unfoldable pub get_configuration_descriptor : ℕ → ℕ → Setup
get_configuration_descriptor index length =
    record {
      request_type = DEVICE_IN;
      request = GET_DESCRIPTOR;
      value =
          descriptor_value CONFIGURATION index;
      index = 0;
      length = length;
    }

unfoldable pub get_string_descriptor : ℕ → ℕ → Setup
get_string_descriptor index language = record {
  request_type = DEVICE_IN;
  request = GET_DESCRIPTOR;
  value = descriptor_value STRING index;
  index = language;
  length = 255;
}

unfoldable pub get_hub_descriptor : Setup
get_hub_descriptor = record {
  request_type = HUB_IN;
  request = GET_DESCRIPTOR;
  value =
      descriptor_value HUB 0;
  index = 0;
  length = HUB_LENGTH;
}

unfoldable pub get_status : Setup
get_status = record {
  request_type = DEVICE_IN;
  request = GET_STATUS;
  value = 0;
  index = 0;
  length =
      2;
}

unfoldable pub set_address : ℕ → Setup
set_address address = record {
  request_type = DEVICE_OUT;
  request = SET_ADDRESS;
  value = address;
  index = 0;
  length = 0;
}

unfoldable pub set_configuration : ℕ → Setup
set_configuration configuration = record {
  request_type = DEVICE_OUT;
  request = SET_CONFIGURATION;
  value = configuration;
  index = 0;
  length = 0;
}

unfoldable pub clear_endpoint_halt : ℕ → Setup
clear_endpoint_halt endpoint = record {
  request_type = ENDPOINT_OUT;
  request = CLEAR_FEATURE;
  value = ENDPOINT_HALT;
  index = endpoint;
  length = 0;
}

unfoldable pub set_interface : ℕ → ℕ → Setup
set_interface interface setting = record {
  request_type = INTERFACE_OUT;
  request = SET_INTERFACE;
  value = setting;
  index = interface;
  length = 0;
}

unfoldable pub get_port_status : ℕ → Setup
get_port_status port = record {
  request_type = PORT_IN;
  request = GET_STATUS;
  value = 0;
  index =
      port;
  length = 4;
}

unfoldable pub set_port_feature : ℕ → ℕ → Setup
set_port_feature feature port = record {
  request_type = PORT_OUT;
  request = SET_FEATURE;
  value =
      feature;
  index = port;
  length = 0;
}

unfoldable pub clear_port_feature : ℕ → ℕ → Setup
clear_port_feature feature port = record {
  request_type = PORT_OUT;
  request = CLEAR_FEATURE;
  value =
      feature;
  index = port;
  length = 0;
}
