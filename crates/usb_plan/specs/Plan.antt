-- The plan that a text spells, or its first fault.
use Rattle.std.specs.Prelude.{◌≤◌, ℕ, ◌^◌, codes, List, [], ◌∷◌, Option, Some, None, Result, Ok}
use Rattle.std.specs.Prelude.{Bool, Err, if◌then◌else◌, map}
use Rattle.std.specs.List.{list_all}
use Rattle.toml.specs.Data.{Data, Items, Members, get_member, as_array}
use Rattle.toml.specs.Parse.{parse_document}
use Rattle.usb_plan.specs.declared.entry_fault.EntryFault.{EntryFault}
use Rattle.usb_plan.specs.declared.entry_fault.EntryFault.TheVariants.{BadValue}
use Rattle.usb_plan.specs.declared.fault.Place.TheVariants as place
use Rattle.usb_plan.specs.declared.fault.PlanFault.{PlanFault}
use Rattle.usb_plan.specs.declared.fault.PlanFault.TheVariants as fault
use Rattle.usb_plan.specs.declared.plan.Top.{Top}
use Rattle.usb_plan.specs.EntryFault.{fault_in_part, least_fault, entry_at, ◌>>=◌}
use Rattle.usb_plan.specs.Keys.{keys_at}
use Rattle.usb_plan.specs.Quirks.{flag_at}
use Rattle.usb_plan.specs.Value.{read_items, number_at, data_list, is_table}
use Rattle.usb_plan.specs.Device.{devices_from}
use Rattle.usb_plan.specs.Event.{events_from}
use Rattle.usb_plan.specs.Damage.{damages_from}
use Rattle.usb_plan.specs.Scene.{ports_said}
use Rattle.usb_world.specs.{PlanData}

-- the key `limit`
unfoldable pub limit_at : Option Data → Result ℕ EntryFault
limit_at d = number_at 0 (10 ^ 14) d

-- the key `roots`
unfoldable pub roots_at : Option Data → Result ℕ EntryFault
roots_at d = number_at 1 7 d

unfoldable pub entries_in : Data → Result (Unit {0}) EntryFault
entries_in d = read_items d >>= λ ds. if list_all is_table ds then Ok tt else Err BadValue

-- the key `device`, `event` or `damage`: an array of tables, which may be absent
unfoldable pub entries_at : Option Data → Result (Unit {0}) EntryFault
entries_at None = Ok tt
entries_at (Some d) = entries_in d

abbrev pub values_in : Option Items → List Data
values_in None = []
values_in (Some items) = data_list items

-- the values of an array, none where it is absent
unfoldable pub values_at : Option Data → List Data
values_at None = []
values_at (Some d) = values_in (as_array d)

abbrev pub top_keys : List (List ℕ)
top_keys =
    codes "limit" ∷ codes "roots" ∷ codes "wide_hubs" ∷ codes "device" ∷ codes "event" ∷
    codes "damage" ∷ []

unfoldable pub top_with :
    Result ℕ EntryFault → Result ℕ EntryFault → Result Bool EntryFault
    → Result (Unit {0}) EntryFault → Result (Unit {0}) EntryFault
    → Result (Unit {0}) EntryFault → Result (Unit {0}) EntryFault → Result Top EntryFault
top_with limit roots wide devices events damages keys = do
  u ← least_fault (fault_in_part limit ∷ fault_in_part roots ∷ fault_in_part wide ∷ fault_in_part
      devices ∷ fault_in_part events
      ∷ fault_in_part damages ∷ fault_in_part keys ∷ [])
  l ← limit
  r ← roots
  w ← wide
  Ok (record { limit = l; roots = r; wide = w })

-- the numbers at the top, and whether hubs may be wide
unfoldable pub top_of : Members → Result Top EntryFault
top_of ms =
    top_with (limit_at (get_member (codes "limit") ms))
    (roots_at (get_member (codes "roots") ms))
    (flag_at (get_member (codes "wide_hubs") ms))
    (entries_at (get_member (codes "device") ms))
    (entries_at (get_member (codes "event") ms))
    (entries_at (get_member (codes "damage") ms))
    (keys_at top_keys ms)

-- what the type of a plan asks of them
pub record TopFits (top : Top) : Type 0 where
  pub limit : top.limit ≤ 10 ^ 14
  pub some_root : 1 ≤ top.roots
  pub few_roots : top.roots ≤ 7

-- devices come first, then events, then damages
unfoldable pub plan_with : Top → List Data → List Data → List Data → Result PlanData PlanFault
plan_with top devices events damages = do
  specs ← devices_from top.wide 1 [] devices
  done ← events_from top.roots top.wide specs (map ports_said devices) 1 [] events
  harms ← damages_from 1 [] damages
  Ok (record {
    limit = top.limit;
    roots = top.roots;
    wide = top.wide;
    devices = specs;
    events = done;
    damages = harms;
  })

-- the values at a key of the top
abbrev pub entries_of : List ℕ → Members → List Data
entries_of key ms = values_at (get_member key ms)

-- the plan of a table's top and devices, with these events and damages
unfoldable pub plan_of_entries : Members → List Data → List Data → Result PlanData PlanFault
plan_of_entries ms events damages =
    entry_at place.Top (top_of ms)
    >>= λ top. plan_with top (entries_of (codes "device") ms) events damages

-- the plan that a table describes: top, devices, events, damages
unfoldable pub plan_of : Members → Result PlanData PlanFault
plan_of ms = plan_of_entries ms (entries_of (codes "event") ms) (entries_of (codes "damage") ms)

unfoldable pub read : Option Members → Result PlanData PlanFault
read None = Err fault.Syntax
read (Some ms) = plan_of ms

-- the plan that a text spells
unfoldable pub spelled_plan : List ℕ → Result PlanData PlanFault
spelled_plan text = read (parse_document text)
