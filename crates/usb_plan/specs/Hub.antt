-- The keys `ports` and `hub_descriptor` of a device.
use Rattle.std.specs.Prelude.{ℕ, ℤ, List, take, Bool, true, false, not, ◌||◌, ◌==◌, Option, Some}
use Rattle.std.specs.Prelude.{None, Result, Ok, Err, if◌then◌else◌}
use Rattle.toml.specs.Data.{Data, as_integer}
use Rattle.usb_plan.specs.declared.entry_fault.EntryFault.{EntryFault}
use Rattle.usb_plan.specs.declared.entry_fault.EntryFault.TheVariants.{BadValue}
use Rattle.usb_plan.specs.EntryFault.{◌>>=◌}
use Rattle.usb_plan.specs.Value.{number_in, hex_in}
use Rattle.usb_descriptor.specs.{hub_spelled, most_ports, port_count}
use Rattle.usb_device.specs.{Hub, has_hub_class, usual_hub}
use Rattle.usb_request.specs.{HUB_LENGTH}

-- without `ports` there is no `hub_descriptor`
unfoldable pub no_hub : Option Data → Result (Option Hub) EntryFault
no_hub None = Ok None
no_hub (Some d) = Err BadValue

-- a host that takes wide hubs, or one that does not, finds this number of ports in the first nine
-- bytes, or no hub descriptor
unfoldable pub is_agreed : Bool → ℕ → List ℕ → Bool
is_agreed wide ports bytes = elim (hub_spelled wide (take HUB_LENGTH bytes)) [
  | Ok hub ↦ port_count hub == ports
  | Err fault ↦ true
]

-- the number of ports that a host with wide hubs finds in them, else that of the key
unfoldable pub built_ports : ℕ → List ℕ → ℕ
built_ports ports bytes = elim (hub_spelled true (take HUB_LENGTH bytes)) [
  | Ok hub ↦ port_count hub
  | Err fault ↦ ports
]

-- the hub with this hub descriptor, where the plan's host does not find another number of ports in
-- it than the key's. It has the key's number, but where its descriptor spells more than 7 and hubs
-- are not wide: then it has as many as that, and the host refuses it before it turns to a port
unfoldable pub hub_with : Bool → ℕ → Result (List ℕ) EntryFault
    → Result (Option Hub) EntryFault
hub_with wide ports descriptor =
    descriptor >>= λ bytes. if is_agreed wide ports bytes then Ok
    (Some (record { ports = built_ports ports bytes; descriptor = bytes })) else Err BadValue

unfoldable pub hub_of : Bool → ℕ → Option Data → Result (Option Hub) EntryFault
hub_of wide ports None = Ok (Some (usual_hub ports))
hub_of wide ports (Some d) = hub_with wide ports (hex_in 255 d)

unfoldable pub hub_in : Bool → Option ℤ → Option Data → Result (Option Hub) EntryFault
hub_in wide ports descriptor = number_in 1 (most_ports wide) ports >>= λ n. hub_of wide n descriptor

-- the keys `ports`, 1 to 7 or with wide hubs 1 to 15, and `hub_descriptor`; both may be absent
unfoldable pub hub_at : Bool → Option Data → Option Data → Result (Option Hub) EntryFault
hub_at wide None descriptor = no_hub descriptor
hub_at wide (Some d) descriptor = hub_in wide (as_integer d) descriptor

unfoldable pub is_low_speed : Result Bool EntryFault → Bool
is_low_speed (Ok low) = low
is_low_speed (Err k) = false

-- the device descriptor is readable, and no hub's
unfoldable pub is_other : Result (List ℕ) EntryFault → Bool
is_other (Ok descriptor) = not (has_hub_class descriptor)
is_other (Err k) = false

-- the key `ports` goes with full speed and the class of hubs alone
unfoldable pub class_at : Option Data → Result Bool EntryFault → Result (List ℕ) EntryFault
    → Result (Unit {0}) EntryFault
class_at None low descriptor = Ok tt
class_at (Some d) low descriptor = if is_low_speed low || is_other descriptor then Err BadValue
    else Ok tt
