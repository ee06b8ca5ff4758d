-- Which rule the bytes of a device break (9.6.1, 9.6.3, 11.23.2.1): the first, in the order in
-- which a host reads.
use Rattle.std.specs.Prelude.{ℕ, zero, suc, ◌+◌, ◌-◌, ◌==◌, ◌&&◌, ◌||◌, Bool, List, [], ◌∷◌, length}
use Rattle.std.specs.Prelude.{take, drop, map, slice_get, Option, Some, None, Result, Ok}
use Rattle.std.specs.Prelude.{Err, nat_lt, get_or, not, false, if◌then◌else◌}
use Rattle.std.specs.List.{list_all}
use Rattle.std.specs.Option.{option_or}
use Rattle.usb_request.specs.{CONFIGURATION_LENGTH, DEVICE_LENGTH, ENDPOINT, ENDPOINT_LENGTH}
use Rattle.usb_request.specs.{HUB_LENGTH, INTERFACE, INTERFACE_LENGTH}
use Rattle.usb_descriptor.specs.{DescriptorFault, config_head_of, configuration_count}
use Rattle.usb_descriptor.specs.{configuration_value, device_spelled, front_fault, hub_spelled}
use Rattle.usb_descriptor.specs.{status_endpoint_of}
use Rattle.usb_device.specs.{Hub, Spec, hub_ports}
use Rattle.usb_enum.specs.{any_has_value, holds_changes, is_hub_device, text_read, texts_of}
use Rattle.usb_remarks.specs.declared.remark.Remark.{Remark}
use Rattle.usb_remarks.specs.declared.remark.Remark.TheVariants as remark
use Rattle.usb_remarks.specs.declared.text.TextRemark.{TextRemark}
use Rattle.usb_remarks.specs.declared.text.TextRemark.TheVariants as part

-- bLength is less than an item of this type has
abbrev pub is_too_small : ℕ → ℕ → Bool
is_too_small length kind = nat_lt length 2 || (kind == INTERFACE && nat_lt length INTERFACE_LENGTH)
    || (kind == ENDPOINT && nat_lt length ENDPOINT_LENGTH)

-- a remark on the item that begins at this byte
abbrev pub noted : ℕ → Option DescriptorFault → Option TextRemark
noted at None = None
noted at (Some fault) = Some (part.Item at fault)

-- on the first item with a fault, of those from this byte on; the first number bounds how many
abbrev pub item_remark_within : ℕ → ℕ → List ℕ → Option TextRemark
item_remark_within zero at bytes = None
item_remark_within (suc n) at [] = None
item_remark_within (suc n) at (l ∷ bytes) = option_or (noted at (front_fault (l ∷ bytes)))
    (item_remark_within n (at + l) (drop (l - 1) bytes))

-- on the items after a configuration descriptor
unfoldable pub item_remark : List ℕ → Option TextRemark
item_remark text = let items = drop CONFIGURATION_LENGTH text in
    item_remark_within (length items) CONFIGURATION_LENGTH items

-- endpoints count after the item that begins here: the last interface has alternate setting 0
abbrev pub counts_behind : Bool → List ℕ → Bool
counts_behind counts item = if get_or item 1 0 == INTERFACE then get_or item 3 0 == 0 else counts

-- where the first endpoint descriptor begins that counts, of the items from this byte on; the first
-- number bounds how many
abbrev pub endpoint_within : ℕ → ℕ → Bool → List ℕ → Option ℕ
endpoint_within zero at counts bytes = None
endpoint_within (suc n) at counts [] = None
endpoint_within (suc n) at counts (l ∷ bytes) =
    if nat_lt l 2 then None
    else if counts && get_or (l ∷ bytes) 1 0 == ENDPOINT then Some at
    else endpoint_within n (at + l) (counts_behind counts (l ∷ bytes)) (drop (l - 1) bytes)

-- of the text of a configuration
unfoldable pub first_endpoint : List ℕ → Option ℕ
first_endpoint text = let items = drop CONFIGURATION_LENGTH text in
    endpoint_within (length items) CONFIGURATION_LENGTH false items

-- on a text that has to have this number of bytes; a host reads no more of it
abbrev pub whole_remark : ℕ → List ℕ → Option TextRemark
whole_remark total text = if nat_lt (length text) total then Some part.Cut else item_remark
    (take total text)

-- on a text whose first nine bytes were read as this
abbrev pub read_remark : Result ℕ DescriptorFault → List ℕ → Option TextRemark
read_remark (Err fault) text = Some (part.Head fault)
read_remark (Ok total) text = whole_remark total text

-- on the text of a configuration
unfoldable pub text_remark : List ℕ → Option TextRemark
text_remark text = read_remark (config_head_of (take CONFIGURATION_LENGTH text)) text

abbrev pub unless_repeated : ℕ → Bool → Option Remark
unless_repeated index repeated = if repeated then Some (remark.Repeated index) else None

abbrev pub with_text : ℕ → Bool → Option TextRemark → Option Remark
with_text index repeated None = unless_repeated index repeated
with_text index repeated (Some t) = Some (remark.Text index t)

abbrev pub at_index : List (List ℕ) → ℕ → Option (List ℕ) → Option Remark
at_index configs index None = Some (remark.Missing index)
at_index configs index (Some text) = with_text index
    (any_has_value (configuration_value (text_read text)) (map text_read (take index configs)))
    (text_remark text)

-- on the configuration of an index
unfoldable pub config_remark : List (List ℕ) → ℕ → Option Remark
config_remark configs index = at_index configs index (slice_get configs index)

-- on the first bad one of so many configurations
unfoldable pub configs_remark : List (List ℕ) → ℕ → Option Remark
configs_remark configs zero = None
configs_remark configs (suc index) = option_or (configs_remark configs index)
    (config_remark configs index)

-- on what a hub gives
abbrev pub spelled_remark : Result (List ℕ) DescriptorFault → Option Remark
spelled_remark (Ok bytes) = None
spelled_remark (Err fault) = Some (remark.Hub fault)

-- for a host that takes wide hubs or not
abbrev pub hub_remark : Bool → Option Hub → Option Remark
hub_remark wide None = Some remark.NoPorts
hub_remark wide (Some hub) = spelled_remark (hub_spelled wide (take HUB_LENGTH hub.descriptor))

-- the text of a configuration has a status endpoint that holds the changes of so many ports
abbrev pub has_status : Bool → ℕ → List ℕ → Bool
has_status wide ports text = holds_changes (status_endpoint_of wide text) ports

-- none of the texts has one
abbrev pub lack_status : Bool → ℕ → List (List ℕ) → Bool
lack_status wide ports texts = list_all (λ text. not (has_status wide ports text)) texts

-- on the configurations of a hub, for a host that takes wide hubs or not
abbrev pub status_remark : Bool → Spec → Option Remark
status_remark wide spec = if lack_status wide (hub_ports spec.hub) (texts_of spec)
    then Some remark.Status else None

-- on a hub, after its configurations
abbrev pub whole_hub_remark : Bool → Spec → Option Remark
whole_hub_remark wide spec = option_or (hub_remark wide spec.hub) (status_remark wide spec)

-- on a device, after its device descriptor
abbrev pub device_remark : Bool → Spec → Result (List ℕ) DescriptorFault → Option Remark
device_remark wide spec (Err fault) = Some (remark.Device fault)
device_remark wide spec (Ok bytes) = option_or
    (configs_remark spec.configs (configuration_count spec.descriptor))
    (if is_hub_device spec.descriptor then whole_hub_remark wide spec else None)

-- on a device, for a host that takes wide hubs or not
unfoldable pub remark_of : Bool → Spec → Option Remark
remark_of wide spec = device_remark wide spec
    (device_spelled spec.low (take DEVICE_LENGTH spec.descriptor))
