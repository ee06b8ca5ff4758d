-- How many attempts each part of an enumeration may take.
use Rattle.std.specs.Prelude.{ℕ, ◌+◌, ◌*◌, ◌≤◌, ⊤}
use Rattle.usb_request.specs.{CONFIGURATION_LENGTH, DEVICE_HEAD_LENGTH, DEVICE_LENGTH, HUB_LENGTH}
use Rattle.usb_transfer.specs.{write_bound}
use Rattle.usb_hub.specs.{HubPort, Root, External, status_bound, order_bound}

-- one transfer that reads, at a maximum packet of 8 or more
abbrev pub read_bound : ℕ → ℕ
read_bound bytes = write_bound + 100 * bytes

-- the port's reset, its status, and the clearing of C_PORT_RESET
abbrev pub reset_bound : HubPort → ℕ
reset_bound port = 2 * order_bound port + status_bound port

-- how often a device is given its address at most
abbrev pub PASSES : ℕ
PASSES = 3

-- the reset, and eight bytes of the device descriptor
abbrev pub unaddressed_bound : HubPort → ℕ
unaddressed_bound port = reset_bound port + read_bound DEVICE_HEAD_LENGTH

-- then the address, and the whole device descriptor
abbrev pub pass_bound : HubPort → ℕ
pass_bound port = unaddressed_bound port + write_bound + read_bound DEVICE_LENGTH

-- the head of a configuration, and its text
abbrev pub configuration_bound : ℕ
configuration_bound = read_bound CONFIGURATION_LENGTH + read_bound 65535

-- the same but for the bytes of the text
abbrev pub text_bound : ℕ
text_bound = read_bound CONFIGURATION_LENGTH + read_bound 0

-- the languages and three strings
abbrev pub strings_bound : ℕ
strings_bound = 4 * read_bound 255

-- nine bytes of the hub descriptor, two of the status, and power for 15 ports
abbrev pub hub_bound : ℕ
hub_bound = read_bound HUB_LENGTH + read_bound 2 + 15 * write_bound

-- 255 configurations, the choice of one, what a hub is asked, and the strings
abbrev pub configured_bound : ℕ
configured_bound = 255 * configuration_bound + write_bound + hub_bound + strings_bound

-- three passes, and all that follows
abbrev pub examination_bound : HubPort → ℕ
examination_bound port = PASSES * pass_bound port + configured_bound

-- the port is disabled where the device is refused
abbrev pub enumeration_bound : HubPort → ℕ
enumeration_bound port = examination_bound port + order_bound port

-- The same where a device has at most eight texts, which say no more than so many bytes

-- the texts, and one more that is refused
abbrev pub texts_bound : ℕ → ℕ
texts_bound most = 9 * text_bound + 100 * most

-- the texts, the choice of one, what a hub is asked, and the strings
abbrev pub configured_by : ℕ → ℕ
configured_by most = texts_bound most + write_bound + hub_bound + strings_bound

-- three passes, and all that follows
abbrev pub examined_by : HubPort → ℕ → ℕ
examined_by port most = PASSES * pass_bound port + configured_by most

-- Where each request to the port is a transfer to a hub

-- a port of the root, or of a hub with a maximum packet of 8 or more
abbrev pub IsWide : HubPort → Type 0
IsWide (Root number) = ⊤
IsWide (External hub port) = 8 ≤ hub.max

-- a pass and an enumeration
abbrev pub widest_pass : ℕ
widest_pass = 2 * write_bound + read_bound 4 + read_bound DEVICE_HEAD_LENGTH + write_bound +
    read_bound DEVICE_LENGTH

abbrev pub widest_enumeration : ℕ
widest_enumeration = PASSES * widest_pass + configured_bound + write_bound
