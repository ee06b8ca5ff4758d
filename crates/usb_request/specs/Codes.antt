-- The numbers of requests, descriptors and endpoints (9.3, 9.4, 9.6, 11.23, 11.24).
use Rattle.std.specs.Prelude.{ℕ}

-- bmRequestType: direction, type and recipient (table 9-2)
abbrev pub DEVICE_IN : ℕ
DEVICE_IN = 0x80

abbrev pub DEVICE_OUT : ℕ
DEVICE_OUT = 0x00

abbrev pub INTERFACE_OUT : ℕ
INTERFACE_OUT = 0x01

abbrev pub INTERFACE_IN : ℕ
INTERFACE_IN = 0x81

abbrev pub ENDPOINT_OUT : ℕ
ENDPOINT_OUT = 0x02

abbrev pub ENDPOINT_IN : ℕ
ENDPOINT_IN = 0x82

abbrev pub HUB_IN : ℕ
HUB_IN = 0xa0

abbrev pub PORT_IN : ℕ
PORT_IN = 0xa3

abbrev pub PORT_OUT : ℕ
PORT_OUT = 0x23

-- bRequest (tables 9-4 and 11-16)
abbrev pub GET_STATUS : ℕ
GET_STATUS = 0

abbrev pub CLEAR_FEATURE : ℕ
CLEAR_FEATURE = 1

abbrev pub SET_FEATURE : ℕ
SET_FEATURE = 3

abbrev pub SET_ADDRESS : ℕ
SET_ADDRESS = 5

abbrev pub GET_DESCRIPTOR : ℕ
GET_DESCRIPTOR = 6

abbrev pub GET_CONFIGURATION : ℕ
GET_CONFIGURATION = 8

abbrev pub SET_CONFIGURATION : ℕ
SET_CONFIGURATION = 9

abbrev pub GET_INTERFACE : ℕ
GET_INTERFACE = 10

abbrev pub SET_INTERFACE : ℕ
SET_INTERFACE = 11

-- bDescriptorType (table 9-5, 11.23.2.1)
abbrev pub DEVICE : ℕ
DEVICE = 1

abbrev pub CONFIGURATION : ℕ
CONFIGURATION = 2

abbrev pub STRING : ℕ
STRING = 3

abbrev pub INTERFACE : ℕ
INTERFACE = 4

abbrev pub ENDPOINT : ℕ
ENDPOINT = 5

abbrev pub HUB : ℕ
HUB = 0x29

-- how many bytes the descriptor of each has (9.6, 11.23.2.1), a hub's where it has at most seven
-- ports; the head of a device's ends
-- with bMaxPacketSize0
abbrev pub DEVICE_LENGTH : ℕ
DEVICE_LENGTH = 18

abbrev pub DEVICE_HEAD_LENGTH : ℕ
DEVICE_HEAD_LENGTH = 8

abbrev pub CONFIGURATION_LENGTH : ℕ
CONFIGURATION_LENGTH = 9

abbrev pub INTERFACE_LENGTH : ℕ
INTERFACE_LENGTH = 9

abbrev pub ENDPOINT_LENGTH : ℕ
ENDPOINT_LENGTH = 7

abbrev pub HUB_LENGTH : ℕ
HUB_LENGTH = 9

-- bEndpointAddress (9.6.6): bit 7, which is set where data go to the host, as in bmRequestType, and
-- the interrupt endpoint of a
-- hub (11.12.1)
abbrev pub DIRECTION_IN : ℕ
DIRECTION_IN = 0x80

abbrev pub STATUS_ENDPOINT : ℕ
STATUS_ENDPOINT = 0x81

-- bDeviceClass of a hub (11.23.1)
abbrev pub HUB_CLASS : ℕ
HUB_CLASS = 9
