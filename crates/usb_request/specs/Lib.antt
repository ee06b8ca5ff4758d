pub mod Codes
pub mod EndpointAddresses
pub mod Features
pub mod HubRequests
pub mod Layout
pub mod Requests
pub mod Reserved
-- the words of this crate, wherever one stands
pub use Codes.{CLEAR_FEATURE, CONFIGURATION, CONFIGURATION_LENGTH, DEVICE, DEVICE_HEAD_LENGTH}
pub use Codes.{DEVICE_IN, DEVICE_LENGTH, DEVICE_OUT, DIRECTION_IN, ENDPOINT, ENDPOINT_LENGTH}
pub use Codes.{ENDPOINT_IN, ENDPOINT_OUT, GET_CONFIGURATION, GET_DESCRIPTOR, GET_INTERFACE}
pub use Codes.{GET_STATUS, HUB, HUB_CLASS, HUB_IN, HUB_LENGTH, INTERFACE, INTERFACE_IN}
pub use Codes.{INTERFACE_LENGTH, INTERFACE_OUT, PORT_IN, PORT_OUT}
pub use Codes.{SET_ADDRESS, SET_CONFIGURATION, SET_FEATURE, SET_INTERFACE, STATUS_ENDPOINT}
pub use Codes.{STRING}
pub use EndpointAddresses.{is_endpoint_address}
pub use Features.{C_PORT_CONNECTION, C_PORT_ENABLE, C_PORT_RESET, ENDPOINT_HALT, PORT_ENABLE}
pub use Features.{PORT_POWER, PORT_RESET}
pub use HubRequests.{HUB_OUT}
unfoldable pub use HubRequests.{clear_hub_feature, get_hub_status}
pub use Layout.{IsToDevice, IsToHost, word_at}
unfoldable pub use Layout.{bytes_of, setup_of}
pub use Requests.{descriptor_value}
unfoldable pub use Requests.{clear_endpoint_halt, clear_port_feature, get_configuration_descriptor}
unfoldable pub use Requests.{get_device_descriptor, get_hub_descriptor, get_port_status, get_status}
unfoldable pub use Requests.{get_string_descriptor, set_address, set_configuration}
unfoldable pub use Requests.{set_interface, set_port_feature}
pub use Reserved.{changes_kept, is_coded}
unfoldable pub use Reserved.{is_reserved}
pub use declared.hub_feature.TheConstants.{C_HUB_LOCAL_POWER, C_HUB_OVER_CURRENT}
pub use declared.setup.Setup.{Setup}
