-- The keys of an entry, as the plan's reader takes them.
use Rattle.std.specs.Prelude.{◌≡◌, ℕ, ◌-◌, ◌==◌, codes, List, [], ◌∷◌, Bool, false, Option, Some}
use Rattle.std.specs.Prelude.{None, Ok, Err, if◌then◌else◌, option_and_then, slice_get}
use Rattle.toml.specs.Data.{Data, Members, get_member, as_bool, as_str, as_table}
use Rattle.toml.specs.View.{table_view}
use Rattle.usb_diagnosis.specs.declared.entry.Entry.{Entry}
use Rattle.usb_plan.specs.{values_at}
use Rattle.usb_plan.specs.{event_keys, other_names, damage_keys, device_keys, top_keys, other_keys}
use Rattle.usb_plan.specs.{verb_named}
use Rattle.usb_plan.specs.declared.fault.Place.{Place}
use Rattle.usb_plan.specs.declared.fault.Place.TheVariants.{Top, Device, Event, Damage}

-- the keys that go with an event's `do`; of an event with another one nothing else is looked at
abbrev pub verb_keys : List ℕ → List (List ℕ)
verb_keys verb =
    elim (verb_named verb) [
      | Ok named ↦ event_keys (other_names (other_keys named))
      | Err fault ↦ codes "do" ∷ []
    ]

abbrev pub keys_with : Option (List ℕ) → List (List ℕ)
keys_with None = codes "do" ∷ []
keys_with (Some verb) = verb_keys verb

-- the text that a value is
abbrev pub value_text : Option Data → Option (List ℕ)
value_text None = None
value_text (Some d) = as_str d

-- the flag that a value is, false if it is none
abbrev pub flag_of : Option Bool → Bool
flag_of None = false
flag_of (Some flag) = flag

abbrev pub value_flag : Option Data → Bool
value_flag None = false
value_flag (Some d) = flag_of (as_bool d)

-- hubs may be wide in the plan of a document
abbrev pub wide_in : Members → Bool
wide_in document = value_flag (get_member (codes "wide_hubs") document)

-- the keys of an entry with these members
abbrev pub entry_keys : Place → Members → List (List ℕ)
entry_keys Top ms = top_keys
entry_keys (Device n) ms = device_keys
entry_keys (Event n) ms = keys_with (value_text (get_member (codes "do") ms))
entry_keys (Damage n) ms = damage_keys

-- the array of a place, and which of its entries stands there, counted from 1
abbrev pub array_place : Place → Option (List ℕ × ℕ)
array_place Top = None
array_place (Device n) = Some (codes "device", n)
array_place (Event n) = Some (codes "event", n)
array_place (Damage n) = Some (codes "damage", n)

-- the table of this number
abbrev pub table_numbered : ℕ → List Data → Option Members
table_numbered number ds = if number == 0 then None else option_and_then as_table
    (slice_get ds (number - 1))

abbrev pub entry_of : Members → Option (List ℕ × ℕ) → Option Members
entry_of document None = Some document
entry_of document (Some at) = table_numbered at.1 (values_at (get_member at.0 document))

-- the entry at a place of a document
abbrev pub entry_in : Members → Place → Option Members
entry_in document place = entry_of document (array_place place)

-- it stands there
pub record IsEntry (document : Members) (place : Place) (entry : Entry) : Type 0 where
  pub at : entry.place ≡ place
  pub table : entry_in document place ≡ Some (table_view entry.table.now)
  pub within : table_view entry.document.now ≡ document
