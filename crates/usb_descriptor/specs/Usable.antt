-- The endpoints that a pipe can use, each by its number and its direction (5.7.3, 5.8.3, 9.6.6).
use Rattle.std.specs.Prelude.{◌≡◌, ◌≤◌, ℕ, ◌==◌, not, ◌&&◌, if◌then◌else◌, List, [], ◌∷◌}
use Rattle.std.specs.Prelude.{Bool, true, false, Option, Some, None, Result, Ok, Err, get_or}
use Rattle.std.specs.Option.{option_or}
use Rattle.usb_descriptor.specs.declared.fault.DescriptorFault.{DescriptorFault}
use Rattle.usb_descriptor.specs.declared.item.Item.{Item}
use Rattle.usb_descriptor.specs.declared.item.Item.TheVariants.{Interface, Endpoint, Other}
use Rattle.usb_descriptor.specs.declared.usable.EndpointKind.{EndpointKind}
use Rattle.usb_descriptor.specs.declared.usable.EndpointKind.TheVariants.{Bulk, Interrupt}
use Rattle.usb_descriptor.specs.declared.usable.UsableEndpoint.{UsableEndpoint}
use Rattle.usb_descriptor.specs.Item.{is_in, endpoint_number, items_of}
use Rattle.usb_descriptor.specs.Item.{interface_number, alternate_setting}
use Rattle.usb_descriptor.specs.Config.{config_of}
use Rattle.usb_descriptor.specs.Choice.{bulk_described, interrupt_described}
use Rattle.usb_descriptor.specs.Settings.{default_settings, setting_of}

-- the endpoint has this direction and this number; the reserved bits of its address do not count
abbrev pub has_number : Bool → ℕ → List ℕ → Bool
has_number true e endpoint = is_in endpoint && endpoint_number endpoint == e
has_number false e endpoint = not (is_in endpoint) && endpoint_number endpoint == e

-- an endpoint of an interface
abbrev pub as_usable : EndpointKind → ℕ → Option (ℕ × ℕ) → Option UsableEndpoint
as_usable kind interface None = None
as_usable kind interface (Some end) =
    Some (record { kind = kind; max = end.1; interface = interface })

-- Which endpoints count

-- the item begins the setting that its interface has
abbrev pub is_current : List ℕ → List ℕ → Bool
is_current settings bytes =
    alternate_setting bytes == setting_of settings (interface_number bytes)

-- the interface to which the endpoints after an item belong, if they count: the last interface item
-- before them begins the setting that its interface has
abbrev pub inside_after : List ℕ → Option ℕ → Item → Option ℕ
inside_after settings inside (Interface bytes) =
    if is_current settings bytes then Some (interface_number bytes) else None
inside_after settings inside (Endpoint bytes) = inside
inside_after settings inside (Other bytes) = inside

-- what is picked of the item, if it is an endpoint that counts
abbrev pub picked_inside : (ℕ → List ℕ → Option UsableEndpoint) → Option ℕ → Item
    → Option UsableEndpoint
picked_inside pick inside (Interface bytes) = None
picked_inside pick None (Endpoint bytes) = None
picked_inside pick (Some interface) (Endpoint bytes) = pick interface bytes
picked_inside pick inside (Other bytes) = None

abbrev pub first_inside : List ℕ → (ℕ → List ℕ → Option UsableEndpoint) → Option ℕ → List Item
    → Option UsableEndpoint
first_inside settings pick inside [] = None
first_inside settings pick inside (item ∷ items) = option_or (picked_inside pick inside item)
    (first_inside settings pick (inside_after settings inside item) items)

-- What a pipe can use

unfoldable pub bulk_with : Bool → Bool → ℕ → ℕ → List ℕ → Option UsableEndpoint
bulk_with low to_host e interface endpoint =
    if not low && has_number to_host e endpoint
    then as_usable Bulk interface (bulk_described endpoint) else None

unfoldable pub interrupt_with : Bool → Bool → ℕ → ℕ → List ℕ → Option UsableEndpoint
interrupt_with low to_host e interface endpoint =
    if has_number to_host e endpoint
    then as_usable Interrupt interface (interrupt_described low endpoint) else None

-- of the items that count and have one address the first bulk item is meant, else the first
-- interrupt item; at low speed there is no bulk
unfoldable pub usable_at : List ℕ → Bool → Bool → ℕ → List Item → Option UsableEndpoint
usable_at settings low to_host e items =
    option_or (first_inside settings (bulk_with low to_host e) None items)
    (first_inside settings (interrupt_with low to_host e) None items)

abbrev pub usable_in : List ℕ → Bool → Bool → ℕ → Result (List ℕ) DescriptorFault
    → Option UsableEndpoint
usable_in settings low to_host e (Err fault) = None
usable_in settings low to_host e (Ok text) = usable_at settings low to_host e (items_of text)

-- in any bytes, under these settings; there is none where they are no configuration text
unfoldable pub usable_under : List ℕ → Bool → Bool → ℕ → List ℕ → Option UsableEndpoint
usable_under settings low to_host e bytes = usable_in settings low to_host e (config_of bytes)

-- while each interface has setting 0
abbrev pub usable_of : Bool → Bool → ℕ → List ℕ → Option UsableEndpoint
usable_of low to_host e bytes = usable_under default_settings low to_host e bytes

-- what an endpoint of an interface is to a pipe, whatever its address
abbrev pub usable_item : Bool → ℕ → List ℕ → Option UsableEndpoint
usable_item low interface endpoint =
    option_or (if low then None else as_usable Bulk interface (bulk_described endpoint))
    (as_usable Interrupt interface (interrupt_described low endpoint))

-- of two endpoints with one address the earlier one counts, but bulk before interrupts
abbrev pub by_kind : EndpointKind → EndpointKind → UsableEndpoint → UsableEndpoint
    → Option UsableEndpoint
by_kind Interrupt Bulk had found = Some found
by_kind kind other had found = Some had

abbrev pub counting_of : Option UsableEndpoint → Option UsableEndpoint → Option UsableEndpoint
counting_of None found = found
counting_of (Some had) None = Some had
counting_of (Some had) (Some found) = by_kind had.kind found.kind had found

abbrev pub max_of_usable : Option UsableEndpoint → Option ℕ
max_of_usable None = None
max_of_usable (Some end) = Some end.max

-- the endpoint belongs to this interface
abbrev pub belongs_to : ℕ → Option UsableEndpoint → Bool
belongs_to interface None = false
belongs_to interface (Some end) = end.interface == interface

-- the endpoints of each direction, by their numbers
pub record EndpointTable : Type 0 where
  pub outs : List (Option UsableEndpoint)
  pub ins : List (Option UsableEndpoint)

-- the endpoint with a direction and a number
abbrev pub end_at : EndpointTable → Bool → ℕ → Option UsableEndpoint
end_at table true e = get_or table.ins e None
end_at table false e = get_or table.outs e None

-- each number has what may be used there
abbrev pub IsTableOf : (Bool → ℕ → Option UsableEndpoint) → EndpointTable → Type 0
IsTableOf usable table = (to_host : Bool) (e : ℕ) → end_at table to_host e ≡ usable to_host e

-- the maximum of an endpoint that a pipe can use
abbrev pub IsPipeMost : UsableEndpoint → Type 0
IsPipeMost end = (1 ≤ end.max) × (end.max ≤ 64)

-- an endpoint of an interface of the text is taken into the table
abbrev pub TakesItem : Bool → ℕ → List ℕ → EndpointTable → EndpointTable → Type 0
TakesItem low interface endpoint old new = (to_host : Bool) (e : ℕ) → end_at new to_host e
    ≡ counting_of (end_at old to_host e)
    (if has_number to_host e endpoint then usable_item low interface endpoint else None)
