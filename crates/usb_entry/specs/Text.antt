-- The `[[device]]` table of a plan that a device makes, with comments on what its bytes say.
use Rattle.std.specs.Prelude.{ℕ, ◌+◌, ◌*◌, ◌%◌, ◌==◌, ◌||◌, not, nat_le, nat_lt, Bool, false, List}
use Rattle.std.specs.Prelude.{[], ◌∷◌, ◌++◌, codes, decimal, encode_utf8, flat_map, if◌then◌else◌}
use Rattle.std.specs.Prelude.{slice_index, Option, Some, None}
use Rattle.std.specs.Borrow.{Bor}
use Rattle.std.specs.Str.{chars}
use Rattle.hex.specs.Hex.{encode_lower, encode_upper}
use Rattle.usb_request.specs.{HUB_CLASS}
use Rattle.usb_watch.specs.{ends_line, escaped}
use Rattle.usb_descriptor.specs.declared.item.Item.{Item}
use Rattle.usb_descriptor.specs.{Interface, Endpoint, Other, TransferType, Control, Isochronous}
use Rattle.usb_descriptor.specs.{Bulk, Interrupt, is_bulk_size, packet_size, configuration_value}
use Rattle.usb_descriptor.specs.{max_power_of, device_class, endpoint_number, is_in, items_of}
use Rattle.usb_descriptor.specs.{max_packet_size, transfer_of, ClassCodes, class_text, device_codes}
use Rattle.usb_descriptor.specs.{first_codes, interface_codes, no_codes}
use Rattle.usb_entry.specs.declared.notes.LinuxSpeed.{LinuxSpeed}
use Rattle.usb_entry.specs.declared.notes.LinuxSpeed.TheVariants.{Full, Low}
use Rattle.usb_entry.specs.declared.notes.Notes.{Notes}
use Rattle.usb_entry.specs.EntryData.{EntryData}
use Rattle.usb_entry.specs.Speed.{is_taken_low}

-- a character of a basic string of TOML 1.0: a quotation mark and a backslash behind a backslash,
-- one that may end a line as \u and its number, any other as it is
abbrev pub char_text : ℕ → List ℕ
char_text c =
    if c == 34 || c == 92 then 92 ∷ c ∷ []
    else if ends_line c then escaped c
    else encode_utf8 c

-- a text as a basic string
abbrev pub basic_string : List ℕ → List ℕ
basic_string text = codes "\"" ++ flat_map char_text (chars text) ++ codes "\""

-- a key and its equals sign
unfoldable pub key_text : List ℕ → List ℕ
key_text key = key ++ codes " = "

-- the begin of a comment within `configs`
unfoldable pub comment_text : List ℕ → List ℕ
comment_text words = codes "  # " ++ words

-- two bytes, of which the low one stands at the index, in four digits
abbrev pub word_digits : List ℕ → ℕ → List ℕ
word_digits bytes at = encode_lower (slice_index bytes (at + 1) ∷ slice_index bytes at ∷ [])

abbrev pub first_config_codes : List (List ℕ) → ClassCodes
first_config_codes [] = no_codes
first_config_codes (config ∷ configs) = first_codes (items_of config)

-- the device's own, or where its class is 0 those of its first interface
abbrev pub entry_codes : EntryData → ClassCodes
entry_codes e = if device_class e.device == 0 then first_config_codes e.configs else device_codes
    e.device

-- the product that Linux names
abbrev pub product_text : Option (Bor (List ℕ)) → List ℕ
product_text None = []
product_text (Some product) = codes ", product " ++ basic_string product.now

-- idVendor and idProduct
unfoldable pub maker_text : EntryData → List ℕ
maker_text e = codes "# " ++ word_digits e.device 8 ++ codes ":" ++ word_digits e.device 10

-- these, the class and the product
unfoldable pub head_line : Option (Bor (List ℕ)) → EntryData → List ℕ
head_line product e = maker_text e ++ codes " " ++ class_text (entry_codes e) ++
    product_text product ++ codes "\n"

unfoldable pub name_line : List ℕ → List ℕ
name_line name = key_text (codes "name") ++ basic_string name ++ codes "\n"

unfoldable pub speed_line : Bool → List ℕ
speed_line low =
    if low then codes
    "speed = \"low\" # no packet has more than 8 bytes; \"full\" if the device is of full speed\n"
    else codes "speed = \"full\"\n"

-- the speed that Linux has, or the one that the device is taken to have
unfoldable pub known_speed_line : Option LinuxSpeed → EntryData → List ℕ
known_speed_line (Some Low) e = codes "speed = \"low\"\n"
known_speed_line (Some Full) e = codes "speed = \"full\"\n"
known_speed_line None e = speed_line (is_taken_low e)

unfoldable pub descriptor_line : List ℕ → List ℕ
descriptor_line device = key_text (codes "descriptor") ++ codes "\"" ++ encode_upper device ++
    codes "\"\n"

unfoldable pub setting_text : ℕ → List ℕ
setting_text setting = if setting == 0 then [] else codes ", setting " ++ decimal setting

-- number, alternate setting and class of an interface
unfoldable pub interface_line : List ℕ → List ℕ
interface_line bytes =
    comment_text (codes "interface ") ++ decimal (slice_index bytes 2) ++ setting_text
    (slice_index bytes 3) ++ codes ": "
    ++ class_text (interface_codes bytes) ++ codes "\n"

abbrev pub direction_word : Bool → List ℕ
direction_word is_in = if is_in then codes " in: " else codes " out: "

abbrev pub transfer_word : TransferType → List ℕ
transfer_word Control = codes "control"
transfer_word Isochronous = codes "isochronous"
transfer_word Bulk = codes "bulk"
transfer_word Interrupt = codes "interrupt"

-- full speed has no packets of this size (5.5.3, 5.6.3, 5.7.3, 5.8.3); all of wMaxPacketSize tells
-- it for bulk
-- transfers, as it does to the host, and else the low eleven bits
abbrev pub is_misfit : TransferType → List ℕ → Bool
is_misfit Control endpoint = nat_lt 64 (packet_size endpoint)
is_misfit Isochronous endpoint = nat_lt 1023 (packet_size endpoint)
is_misfit Bulk endpoint = not (is_bulk_size (max_packet_size endpoint))
is_misfit Interrupt endpoint = nat_lt 64 (packet_size endpoint)

abbrev pub misfit_text : Bool → List ℕ
misfit_text misfit = if misfit then codes ", no size of full speed: the host leaves it unused"
    else []

-- number, direction, transfers and packet size of an endpoint
unfoldable pub endpoint_line : List ℕ → List ℕ
endpoint_line bytes =
    comment_text (codes "endpoint ") ++ decimal (endpoint_number bytes) ++ direction_word
    (is_in bytes)
    ++ transfer_word (transfer_of bytes) ++ codes ", " ++ decimal (packet_size bytes) ++
    codes " bytes"
    ++ misfit_text (is_misfit (transfer_of bytes) bytes) ++ codes "\n"

abbrev pub item_line : Item → List ℕ
item_line (Interface bytes) = interface_line bytes
item_line (Endpoint bytes) = endpoint_line bytes
item_line (Other bytes) = []

-- a configuration's number, what it draws in mA, its interfaces and endpoints, and all its bytes
unfoldable pub configuration_lines : List ℕ → List ℕ
configuration_lines config =
    comment_text (codes "configuration ") ++ decimal (configuration_value config) ++ codes ": " ++
    decimal (2 * max_power_of config)
    ++ codes " mA\n" ++ flat_map item_line (items_of config) ++ codes "  \"" ++ encode_upper config
    ++ codes "\",\n"

-- its class is that of hubs, and no device of low speed is one (11.1)
abbrev pub has_ports : Option LinuxSpeed → List ℕ → Bool
has_ports (Some Low) device = false
has_ports (Some Full) device = device_class device == HUB_CLASS
has_ports None device = device_class device == HUB_CLASS

-- a hub has a number of ports
unfoldable pub ports_line : Option LinuxSpeed → List ℕ → ℕ → List ℕ
ports_line speed device ports =
    if has_ports speed device
    then key_text (codes "ports") ++ decimal ports ++
    codes " # how many it has is not in these descriptors\n"
    else []

-- bit 6 of bmAttributes of the first configuration: the device has power of its own (9.6.3)
abbrev pub is_self_powered : List (List ℕ) → Bool
is_self_powered [] = false
is_self_powered (config ∷ configs) = nat_le 64 (slice_index config 7 % 128)

abbrev pub power_line : Bool → List ℕ
power_line self_powered = if self_powered then codes "self_powered = true\n" else []

-- what the device is: its name, its speed, its descriptor
unfoldable pub identity_lines : List ℕ → Notes → EntryData → List ℕ
identity_lines name notes e = head_line notes.product e ++ codes "[[device]]\n" ++ name_line name
    ++ known_speed_line notes.speed e ++ descriptor_line e.device

-- the whole table
unfoldable pub entry_text : List ℕ → ℕ → Notes → EntryData → List ℕ
entry_text name ports notes e =
    identity_lines name notes e ++ codes "configs = [\n"
    ++ flat_map configuration_lines e.configs ++
    codes "]\n"
    ++ ports_line notes.speed e.device ports ++ power_line (is_self_powered e.configs)
