-- The places that a text spells, or its first fault.
use Rattle.std.specs.Prelude.{ℕ, codes, List, [], ◌∷◌, ◌++◌, ◌+◌, Bool, false, Option, None, Some}
use Rattle.std.specs.Prelude.{is_some, Result, Ok, Err, drop, take, map, ◌||◌, if◌then◌else◌}
use Rattle.std.specs.List.{list_any}
use Rattle.toml.specs.Data.{Data, Members, table, no_members, member, get_member, as_table}
use Rattle.toml.specs.Data.{same_key}
use Rattle.toml.specs.Parse.{parse_document}
use Rattle.usb_plan.specs.{PlanFault, entries_of, placed_damage, plan_of_entries, ◌>>=◌}
use Rattle.usb_plan.specs.declared.fault.Place.{Place}
use Rattle.usb_plan.specs.declared.fault.Place.TheVariants as place
use Rattle.usb_plan.specs.declared.fault.PlanFault.TheVariants as fault
use Rattle.usb_places.specs.declared.fault.PlacesFault.{PlacesFault}
use Rattle.usb_places.specs.declared.fault.PlacesFault.TheVariants.{When as BadWhen, Order, Plan}
use Rattle.usb_places.specs.declared.fault.WhenFault.{WhenFault}
use Rattle.usb_places.specs.declared.fault.WhenFault.TheVariants as why
use Rattle.usb_places.specs.declared.sought.Sought.{Sought}
use Rattle.usb_places.specs.declared.sought.Whose.{Whose}
use Rattle.usb_places.specs.declared.sought.Whose.TheVariants as whose
use Rattle.usb_places.specs.declared.when.When.{When}
use Rattle.usb_places.specs.Places.{PlacesData}
use Rattle.usb_places.specs.Whens.{when_in}

-- memory was refused
abbrev pub no_memory : PlacesFault
no_memory = Plan fault.Memory

-- the place that is sought of this, before any deed of the host
abbrev pub new_sought : Whose → When → Sought
new_sought whose when = record { whose = whose; when = when; left = when.nth; found = None }

-- the key `when` of an event, which stands alone
unfoldable pub plain_when : Option Data → Option Data → Result (Option When) WhenFault
plain_when None beside = Ok None
plain_when (Some d) (Some after) = Err why.Beside
plain_when (Some d) None = when_in d >>= λ when. Ok (Some when)

abbrev pub members_when : Option Members → Result (Option When) WhenFault
members_when None = Ok None
members_when (Some ms) =
    plain_when (get_member (codes "when") ms) (get_member (codes "after") ms)

-- the place of an event, if it has `when`
unfoldable pub event_when : Data → Result (Option When) WhenFault
event_when d = members_when (as_table d)

-- an error with its place
abbrev pub when_at : {A : Type 0} → Place → Result A WhenFault → Result A PlacesFault
when_at at (Ok a) = Ok a
when_at at (Err w) = Err (BadWhen at w)

abbrev pub in_plan : {A : Type 0} → Result A PlanFault → Result A PlacesFault
in_plan (Ok a) = Ok a
in_plan (Err why) = Err (Plan why)

-- with the place of the event behind so many others, if it has one
abbrev pub with_event : ℕ → List Sought → Option When → List Sought
with_event before done None = done
with_event before done (Some when) = done ++ new_sought (whose.Event before) when ∷ []

-- the places so far and those of these events, which come behind so many others
unfoldable pub events_from : List Sought → ℕ → List Data → Result (List Sought) PlacesFault
events_from done before [] = Ok done
events_from done before (d ∷ ds) =
    when_at (place.Event (before + 1)) (event_when d)
    >>= λ when. events_from (with_event before done when) (before + 1) ds

-- without the key
unfoldable pub without : List ℕ → Members → Members
without k no_members = no_members
without k (member l d ms) = if same_key k l then ms else member l d (without k ms)

-- an event without its `when`
abbrev pub plain : Data → Data
plain (table ms) = table (without (codes "when") ms)
plain d = d

abbrev pub table_has_when : Option Members → Bool
table_has_when None = false
table_has_when (Some ms) = is_some (get_member (codes "when") ms)

abbrev pub has_when : Data → Bool
has_when d = table_has_when (as_table d)

-- some event or damage has `when`
abbrev pub uses_when : Members → Bool
uses_when ms =
    list_any has_when (entries_of (codes "event") ms)
    || list_any has_when (entries_of (codes "damage") ms)

-- so in the document of a text, if that is one
abbrev pub text_uses_when : List ℕ → Bool
text_uses_when text = elim (parse_document text) [ None ↦ false | Some ms ↦ uses_when ms ]

-- how many damages stand before the first one with `when`
unfoldable pub fixed_damages : List Data → ℕ
fixed_damages [] = 0
fixed_damages (d ∷ ds) = if has_when d then 0 else 1 + fixed_damages ds

-- the place of the damage of a number
abbrev pub when_sought : ℕ → Members → Option Data → Result Sought PlacesFault
when_sought number ms None = Err (Order (place.Damage number))
when_sought number ms (Some d) = do
  when ← when_at (place.Damage number) (when_in d)
  damage ← in_plan (placed_damage number 1 ms)
  Ok (new_sought (whose.Damage damage) when)

unfoldable pub table_sought : ℕ → Members → Result Sought PlacesFault
table_sought number ms = when_sought number ms (get_member (codes "when") ms)

abbrev pub members_sought : ℕ → Option Members → Result Sought PlacesFault
members_sought number None = Err (Plan (fault.BadValue (place.Damage number)))
members_sought number (Some ms) = table_sought number ms

unfoldable pub damage_sought : ℕ → Data → Result Sought PlacesFault
damage_sought number d = members_sought number (as_table d)

-- the places so far and those of these damages, of which the first has this number
unfoldable pub damages_from : List Sought → ℕ → List Data → Result (List Sought) PlacesFault
damages_from done number [] = Ok done
damages_from done number (d ∷ ds) =
    damage_sought number d >>= λ s. damages_from (done ++ s ∷ []) (number + 1) ds

-- places of events come first, then the plan without them, then places of damages
unfoldable pub places_of : Members → Result PlacesData PlacesFault
places_of ms = do
  first ← events_from [] 0 (entries_of (codes "event") ms)
  plan ← in_plan (plan_of_entries ms (map plain (entries_of (codes "event") ms))
      (take (fixed_damages (entries_of (codes "damage") ms)) (entries_of (codes "damage") ms)))
  all ← damages_from first (fixed_damages (entries_of (codes "damage") ms) + 1)
      (drop (fixed_damages (entries_of (codes "damage") ms)) (entries_of (codes "damage") ms))
  Ok (record { plan = plan; sought = all; transfer = None })

abbrev pub read_places : Option Members → Result PlacesData PlacesFault
read_places None = Err (Plan fault.Syntax)
read_places (Some ms) = places_of ms

-- the plan with places that a text spells
unfoldable pub spelled_places : List ℕ → Result PlacesData PlacesFault
spelled_places text = read_places (parse_document text)
