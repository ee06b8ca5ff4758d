-- Remarks in words.
use Rattle.std.specs.Prelude.{ℕ, ◌+◌, ◌*◌, ◌-◌, ◌==◌, ◌&&◌, ◌||◌, not, Bool, codes, drop, List, []}
use Rattle.std.specs.Prelude.{◌++◌, length, get_or, slice_index_or, decimal, Option, Some, None}
use Rattle.std.specs.Prelude.{◌%◌, nat_le, nat_lt, if◌then◌else◌}
use Rattle.usb_request.specs.{ENDPOINT, INTERFACE, STATUS_ENDPOINT}
use Rattle.usb_descriptor.specs.{DescriptorFault, most_ports}
use Rattle.usb_descriptor.specs.declared.fault.DescriptorFault.TheVariants as flaw
use Rattle.usb_device.specs.{Hub, Spec, hub_ports}
use Rattle.usb_enum.specs.{text_read}
use Rattle.usb_remarks.specs.declared.remark.Remark.{Remark}
use Rattle.usb_remarks.specs.declared.remark.Remark.TheVariants as remark
use Rattle.usb_remarks.specs.declared.text.TextRemark.{TextRemark}
use Rattle.usb_remarks.specs.declared.text.TextRemark.TheVariants as part
use Rattle.usb_remarks.specs.Remarks.{first_endpoint}

-- the byte, the field with its value, and the rule
abbrev pub rule_words : ℕ → List ℕ → ℕ → List ℕ → List ℕ
rule_words byte field value rule = codes "byte " ++ decimal byte ++ codes ": " ++ field
    ++ decimal value ++ rule

abbrev pub packet_rule : Bool → List ℕ
packet_rule low = if low then codes ", at low speed it is 8" else codes
    ", at full speed it is 8, 16, 32 or 64"

-- of a device descriptor
abbrev pub device_words : Bool → List ℕ → DescriptorFault → List ℕ
device_words low bytes flaw.Short = rule_words 0 (codes "the text has ") (length bytes)
    (codes " bytes, a device descriptor has 18")
device_words low bytes flaw.WrongType = rule_words 1 (codes "bDescriptorType is ")
    (get_or bytes 1 0) (codes ", of a device it is 1")
device_words low bytes flaw.MaxPacket = rule_words 7 (codes "bMaxPacketSize0 is ")
    (get_or bytes 7 0) (packet_rule low)
device_words low bytes flaw.NoConfiguration = rule_words 17 (codes "bNumConfigurations is ")
    (get_or bytes 17 0) (codes ", it is at least 1")
device_words low bytes flaw.Length = rule_words 0 (codes "bLength is ") (get_or bytes 0 0)
    (codes ", of a device it is 18")
device_words low bytes flaw.Total = rule_words 0 (codes "bLength is ") (get_or bytes 0 0)
    (codes ", of a device it is 18")

-- wTotalLength
abbrev pub said_total : List ℕ → ℕ
said_total text = get_or text 2 0 + 256 * get_or text 3 0

-- of the descriptor of a configuration
abbrev pub head_words : List ℕ → DescriptorFault → List ℕ
head_words text flaw.Short = rule_words 0 (codes "the text has ") (length text)
    (codes " bytes, a configuration descriptor has 9")
head_words text flaw.WrongType = rule_words 1 (codes "bDescriptorType is ") (get_or text 1 0)
    (codes ", of a configuration it is 2")
head_words text flaw.Total = rule_words 2 (codes "wTotalLength is ") (said_total text)
    (codes ", it is at least 9")
head_words text flaw.NoConfiguration = rule_words 5 (codes "bConfigurationValue is ")
    (get_or text 5 0) (codes ", it is at least 1")
head_words text flaw.Length = rule_words 0 (codes "bLength is ") (get_or text 0 0)
    (codes ", of a configuration it is 9")
head_words text flaw.MaxPacket = rule_words 0 (codes "bLength is ") (get_or text 0 0)
    (codes ", of a configuration it is 9")

-- of a text that ends before its wTotalLength
abbrev pub cut_words : List ℕ → List ℕ
cut_words text = rule_words 2 (codes "wTotalLength is ") (said_total text) (codes ", the text has ")
    ++ decimal (length text) ++ codes " bytes"

-- of an item of a type
abbrev pub item_rule : ℕ → List ℕ
item_rule kind =
    if kind == INTERFACE then codes ", of an interface it is at least 9"
    else if kind == ENDPOINT then codes ", of an endpoint it is at least 7"
    else codes ", it is at least 2"

-- of an item that passes the end
abbrev pub passing_words : List ℕ → ℕ → List ℕ
passing_words text at = rule_words at (codes "bLength is ") (get_or (drop at text) 0 0)
    (codes ", wTotalLength leaves ") ++ decimal (said_total text - at)

-- of an item that is too small
abbrev pub small_words : List ℕ → ℕ → List ℕ
small_words text at = rule_words at (codes "bLength is ") (get_or (drop at text) 0 0)
    (item_rule (get_or (drop at text) 1 0))

abbrev pub item_words : List ℕ → ℕ → DescriptorFault → List ℕ
item_words text at flaw.Total = passing_words text at
item_words text at flaw.Short = small_words text at
item_words text at flaw.WrongType = small_words text at
item_words text at flaw.Length = small_words text at
item_words text at flaw.MaxPacket = small_words text at
item_words text at flaw.NoConfiguration = small_words text at

abbrev pub text_words : List ℕ → TextRemark → List ℕ
text_words bytes (part.Head fault) = head_words bytes fault
text_words bytes part.Cut = cut_words bytes
text_words bytes (part.Item at fault) = item_words bytes at fault

-- a host takes this number of ports
abbrev pub is_count : Bool → ℕ → Bool
is_count wide ports = nat_le 1 ports && nat_le ports (most_ports wide)

-- the least length of a hub descriptor
abbrev pub length_rule : Bool → List ℕ
length_rule long = if long then codes ", with more than 7 ports it is at least 11" else codes
    ", it is at least 9"

abbrev pub ports_rule : Bool → List ℕ
ports_rule wide = if wide then codes ", it is 1 to 15" else codes ", it is 1 to 7"

-- of a hub descriptor's length and its number of ports
abbrev pub ports_words : Bool → List ℕ → List ℕ
ports_words wide bytes =
    if nat_lt (get_or bytes 0 0) 9 || is_count wide (get_or bytes 2 0)
    then rule_words 0 (codes "bDescLength is ") (get_or bytes 0 0)
    (length_rule (not (nat_lt (get_or bytes 0 0) 9)))
    else rule_words 2 (codes "bNbrPorts is ") (get_or bytes 2 0) (ports_rule wide)

-- of a hub descriptor
unfoldable pub hub_words : Bool → List ℕ → DescriptorFault → List ℕ
hub_words wide bytes flaw.Short = rule_words 0 (codes "the text has ") (length bytes)
    (codes " bytes, a hub descriptor has 9")
hub_words wide bytes flaw.WrongType = rule_words 1 (codes "bDescriptorType is ") (get_or bytes 1 0)
    (codes ", of a hub it is 41")
hub_words wide bytes flaw.Length = ports_words wide bytes
hub_words wide bytes flaw.MaxPacket = ports_words wide bytes
hub_words wide bytes flaw.Total = ports_words wide bytes
hub_words wide bytes flaw.NoConfiguration = ports_words wide bytes

abbrev pub hub_bytes : Option Hub → List ℕ
hub_bytes None = []
hub_bytes (Some hub) = hub.descriptor

-- the place of a configuration
abbrev pub index_words : ℕ → List ℕ
index_words index = codes "configs[" ++ decimal index ++ codes "], "

abbrev pub config_words : List (List ℕ) → ℕ → TextRemark → List ℕ
config_words configs index t = index_words index ++ text_words (slice_index_or configs index []) t

abbrev pub repeated_words : List (List ℕ) → ℕ → List ℕ
repeated_words configs index = index_words index ++ rule_words 5 (codes "bConfigurationValue is ")
    (get_or (slice_index_or configs index []) 5 0) (codes ", as of an earlier one")

-- the key that has the bytes
unfoldable pub key_words : List ℕ → List ℕ
key_words key = key ++ codes ", "

-- of a configuration that is missing
abbrev pub count_words : List ℕ → ℕ → List ℕ
count_words bytes index = rule_words 17 (codes "bNumConfigurations is ") (get_or bytes 17 0)
    (codes ", `configs` has ") ++ decimal index

abbrev pub missing_words : List ℕ → ℕ → List ℕ
missing_words bytes index = key_words (codes "descriptor") ++ count_words bytes index

abbrev pub descriptor_words : Spec → DescriptorFault → List ℕ
descriptor_words spec fault =
    key_words (codes "descriptor") ++ device_words spec.low spec.descriptor fault

-- of a hub without ports
abbrev pub portless_words : List ℕ → List ℕ
portless_words bytes = key_words (codes "descriptor") ++ rule_words 4 (codes "bDeviceClass is ")
    (get_or bytes 4 0) (codes ", of a hub: it needs `ports`")

abbrev pub given_words : Bool → List ℕ → DescriptorFault → List ℕ
given_words wide bytes fault = key_words (codes "hub_descriptor") ++ hub_words wide bytes fault

-- a status endpoint may have this address
abbrev pub is_status_address : Bool → ℕ → Bool
is_status_address wide address = address == STATUS_ENDPOINT ||
    (wide && nat_le 129 address && nat_le address 143)

abbrev pub address_rule : Bool → List ℕ
address_rule wide = if wide then codes ", of a hub's status endpoint it is 129 to 143" else codes
    ", of a hub's status endpoint it is 129, or to 143 with `wide_hubs`"

abbrev pub size_rule : Bool → List ℕ
size_rule many = if many then codes ", of a hub with more than 7 ports it is 2 to 64" else codes
    ", of a hub's status endpoint it is 1 to 64"

-- of an endpoint descriptor that begins at this byte, and is not that of a status endpoint
unfoldable pub endpoint_words : Bool → Bool → ℕ → List ℕ → List ℕ
endpoint_words wide many at endpoint =
    if not (is_status_address wide (get_or endpoint 2 0))
    then rule_words (at + 2) (codes "bEndpointAddress is ") (get_or endpoint 2 0)
    (address_rule wide)
    else if not (get_or endpoint 3 0 % 4 == 3)
    then rule_words (at + 3) (codes "bmAttributes is ") (get_or endpoint 3 0)
    (codes ", of an interrupt endpoint it is 3")
    else rule_words (at + 4) (codes "wMaxPacketSize is ")
    (get_or endpoint 4 0 + 256 * get_or endpoint 5 0) (size_rule many)

-- of a text whose first endpoint begins at this byte
abbrev pub lacking_words : Bool → Bool → List ℕ → Option ℕ → List ℕ
lacking_words wide many text None = rule_words 4 (codes "bNumInterfaces is ") (get_or text 4 0)
    (codes ", of a hub one has a status endpoint")
lacking_words wide many text (Some at) = endpoint_words wide many at (drop at text)

-- of a hub without a status endpoint
abbrev pub status_words : Bool → Spec → List ℕ
status_words wide spec = let text = text_read (slice_index_or spec.configs 0 []) in
    index_words 0 ++ lacking_words wide (nat_lt 7 (hub_ports spec.hub)) text (first_endpoint text)

-- a remark on a device, for a host that takes wide hubs or not: the key with the bytes, the byte,
-- the field with its value, and the rule
unfoldable pub remark_words : Bool → Spec → Remark → List ℕ
remark_words wide spec (remark.Device fault) = descriptor_words spec fault
remark_words wide spec (remark.Text index t) = config_words spec.configs index t
remark_words wide spec (remark.Repeated index) = repeated_words spec.configs index
remark_words wide spec (remark.Missing index) = missing_words spec.descriptor index
remark_words wide spec remark.NoPorts = portless_words spec.descriptor
remark_words wide spec (remark.Hub fault) = given_words wide (hub_bytes spec.hub) fault
remark_words wide spec remark.Status = status_words wide spec
