-- The `device` entries of the document.
use Rattle.std.specs.Prelude.{◌≡◌, ◌≤◌, ℕ, codes, List, [], ◌∷◌, ◌++◌, length, Bool, true, false}
use Rattle.std.specs.Prelude.{◌||◌, ◌==◌, Option, Some, None, IfSome, ok_or, Result, Ok, Err}
use Rattle.std.specs.Prelude.{nat_lt, if◌then◌else◌, ◌+◌}
use Rattle.std.specs.Str.{bytes_eq}
use Rattle.toml.specs.Data.{Data, Members, get_member, as_table}
use Rattle.usb_plan.specs.declared.entry_fault.EntryFault.{EntryFault}
use Rattle.usb_plan.specs.declared.entry_fault.EntryFault.TheVariants.{MissingKey, BadValue}
use Rattle.usb_plan.specs.declared.fault.Place.TheVariants as place
use Rattle.usb_plan.specs.declared.fault.PlanFault.{PlanFault}
use Rattle.usb_plan.specs.declared.device.Identity.{Identity}
use Rattle.usb_plan.specs.declared.device.DeviceTexts.{DeviceTexts}
use Rattle.usb_plan.specs.declared.device.DeviceTables.{DeviceTables}
use Rattle.usb_plan.specs.declared.quirks.Quirks.{Quirks}
use Rattle.usb_plan.specs.declared.bulk.Bulk.{Bulk}
use Rattle.usb_plan.specs.EntryFault.{fault_in_part, least_fault, entry_at, ◌>>=◌}
use Rattle.usb_plan.specs.Keys.{keys_at}
use Rattle.usb_plan.specs.Value.{read_text, hex_in}
use Rattle.usb_plan.specs.Texts.{texts_in}
use Rattle.usb_plan.specs.Hub.{class_at, hub_at}
use Rattle.usb_plan.specs.Quirks.{quirks_of}
use Rattle.usb_plan.specs.Bulk.{read_bulk}
use Rattle.usb_plan.specs.Endpoints.{endpoints_of}
use Rattle.usb_plan.specs.OwnRequests.{requests_of}
use Rattle.usb_device.specs.{Spec, Hub, EndpointSpec, OwnRequest, hub_fits, function, is_named}

unfoldable pub name_in : List Spec → List ℕ → Result (List ℕ) EntryFault
name_in earlier text = if length text == 0 || is_named earlier text then Err BadValue else Ok text

-- the key `name`: not empty, and no earlier device has it
unfoldable pub name_at : List Spec → Option Data → Result (List ℕ) EntryFault
name_at earlier d = read_text d >>= name_in earlier

-- the key `speed`: whether it is low speed
unfoldable pub speed_at : Option Data → Result Bool EntryFault
speed_at d =
    read_text d
    >>= λ text. if bytes_eq text (codes "full") then Ok false
    else if bytes_eq text (codes "low") then Ok true
    else Err BadValue

-- the key `descriptor`: at most 255 bytes
unfoldable pub descriptor_at : Option Data → Result (List ℕ) EntryFault
descriptor_at d = ok_or d MissingKey >>= hex_in 255

-- the key `configs`: at most 8 texts of at most 65,535 bytes
unfoldable pub configs_at : Option Data → Result (List (List ℕ)) EntryFault
configs_at d = ok_or d MissingKey >>= texts_in 8 65535

-- the key `strings`: at most 256 texts of at most 255 bytes; absent there are none
unfoldable pub strings_at : Option Data → Result (List (List ℕ)) EntryFault
strings_at None = Ok []
strings_at (Some d) = texts_in 256 255 d

abbrev pub device_keys : List (List ℕ)
device_keys =
    codes "name" ∷ codes "speed" ∷ codes "descriptor" ∷ codes "configs" ∷ codes "strings" ∷
    codes "ports" ∷ codes "hub_descriptor"
    ∷ codes "self_powered" ∷ codes "busy" ∷ codes "silent" ∷ codes "naks" ∷ codes "stalls" ∷
    codes "source" ∷ codes "halt_after" ∷ codes "endpoint" ∷ codes "request" ∷ []

-- at most 127 devices
unfoldable pub device_room : List Spec → Result (Unit {0}) EntryFault
device_room earlier = if nat_lt (length earlier) 127 then Ok tt else Err BadValue

abbrev pub Texts : Type 0
Texts = List (List ℕ)

unfoldable pub with_quirks : Quirks → Spec → Spec
with_quirks q s = record s {
  self_powered = q.self_powered;
  busy = q.busy;
  silent = q.silent;
  naks = q.naks;
  stalls = q.stalls;
}

unfoldable pub with_halt : Option ℕ → Spec → Spec
with_halt None s = s
with_halt (Some packets) s = record s { halt_after = Some packets }

unfoldable pub with_hub : Option Hub → Spec → Spec
with_hub None s = s
with_hub (Some hub) s = record s { hub = Some hub }

-- what the type of a device asks of its parts
abbrev pub HubFits : Identity → Type 0
HubFits identity = hub_fits identity.low identity.descriptor identity.hub ≡ true

abbrev pub FewNaks : Quirks → Type 0
FewNaks quirks = quirks.naks ≤ 200

abbrev pub HaltsLater : Bulk → Type 0
HaltsLater bulk = IfSome bulk.halt_after (λ n. 1 ≤ n)

unfoldable pub identity_with :
    Result (List ℕ) EntryFault → Result Bool EntryFault → Result (List ℕ) EntryFault
    → Result (Unit {0}) EntryFault
    → Result (Option Hub) EntryFault → Result Identity EntryFault
identity_with name low descriptor class hub = do
  u ← least_fault (fault_in_part name ∷ fault_in_part low ∷ fault_in_part descriptor ∷ fault_in_part
      class ∷ fault_in_part hub ∷ [])
  n ← name
  l ← low
  d ← descriptor
  h ← hub
  Ok (record { name = n; low = l; descriptor = d; hub = h })

-- the keys of what a device is, beside the earlier ones
unfoldable pub identity_of : Bool → List Spec → Members → Result Identity EntryFault
identity_of wide earlier ms =
    identity_with (name_at earlier (get_member (codes "name") ms))
    (speed_at (get_member (codes "speed") ms))
    (descriptor_at (get_member (codes "descriptor") ms))
    (class_at (get_member (codes "ports") ms) (speed_at (get_member (codes "speed") ms))
    (descriptor_at (get_member (codes "descriptor") ms)))
    (hub_at wide (get_member (codes "ports") ms) (get_member (codes "hub_descriptor") ms))

unfoldable pub device_texts_with : Result Texts EntryFault → Result Texts EntryFault
    → Result DeviceTexts EntryFault
device_texts_with configs strings = do
  u ← least_fault (fault_in_part configs ∷ fault_in_part strings ∷ [])
  c ← configs
  s ← strings
  Ok (record { configs = c; strings = s })

-- the keys of the texts that a device gives
unfoldable pub device_texts_of : Members → Result DeviceTexts EntryFault
device_texts_of ms =
    device_texts_with (configs_at (get_member (codes "configs") ms))
    (strings_at (get_member (codes "strings") ms))

unfoldable pub device_tables_with : Result (List EndpointSpec) EntryFault
    → Result (List OwnRequest) EntryFault → Result DeviceTables EntryFault
device_tables_with endpoints requests = do
  u ← least_fault (fault_in_part endpoints ∷ fault_in_part requests ∷ [])
  e ← endpoints
  r ← requests
  Ok (record { endpoints = e; requests = r })

-- the keys of the tables in a device
unfoldable pub device_tables_of : Members → Result DeviceTables EntryFault
device_tables_of ms = device_tables_with (endpoints_of ms) (requests_of ms)

abbrev pub named_device : Identity → DeviceTexts → Spec
named_device i c = record (function i.name i.descriptor c.configs) { low = i.low }

abbrev pub outer_of : Texts → List ℕ → DeviceTables → Spec → Spec
outer_of strings source tables s =
    record s {
      strings = strings;
      source = source;
      endpoints = tables.endpoints;
      requests = tables.requests;
    }

unfoldable pub device_of_parts : Identity → DeviceTexts → Quirks → Bulk → DeviceTables → Spec
device_of_parts identity texts quirks bulk tables =
    with_halt bulk.halt_after (with_quirks quirks (outer_of texts.strings bulk.source tables
    (with_hub identity.hub (named_device identity texts))))

unfoldable pub device_with :
    Result Identity EntryFault → Result DeviceTexts EntryFault → Result Quirks EntryFault
    → Result Bulk EntryFault → Result DeviceTables EntryFault
    → Result (Unit {0}) EntryFault → Result (Unit {0}) EntryFault → Result Spec EntryFault
device_with identity texts quirks bulk tables keys room = do
  u ← least_fault (fault_in_part identity ∷ fault_in_part texts ∷ fault_in_part quirks ∷
      fault_in_part bulk ∷ fault_in_part tables
      ∷ fault_in_part keys ∷ fault_in_part room ∷ [])
  i ← identity
  c ← texts
  q ← quirks
  b ← bulk
  t ← tables
  Ok (device_of_parts i c q b t)

-- the device that a table describes, beside the earlier ones
unfoldable pub read_device : Bool → List Spec → Members → Result Spec EntryFault
read_device wide earlier ms =
    device_with (identity_of wide earlier ms) (device_texts_of ms) (quirks_of ms) (read_bulk ms)
    (device_tables_of ms) (keys_at device_keys ms) (device_room earlier)

unfoldable pub device_in : Bool → List Spec → Option Members → Result Spec EntryFault
device_in wide earlier table = ok_or table BadValue >>= read_device wide earlier

-- the devices so far and those of the values; the first is number n
unfoldable pub devices_from : Bool → ℕ → List Spec → List Data → Result (List Spec) PlanFault
devices_from wide n done [] = Ok done
devices_from wide n done (d ∷ ds) =
    entry_at (place.Device n) (device_in wide done (as_table d))
    >>= λ s. devices_from wide (n + 1) (done ++ s ∷ []) ds
