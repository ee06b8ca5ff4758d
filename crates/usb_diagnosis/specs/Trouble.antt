-- What of an entry makes its fault.
use Rattle.std.specs.Prelude.{◌≡◌, ⊤, ℕ, List, Some, None, false}
use Rattle.std.specs.List.{list_any}
use Rattle.std.specs.Str.{bytes_eq}
use Rattle.toml.specs.Data.{Members, get_member}
use Rattle.toml.specs.View.{view}
use Rattle.usb_diagnosis.specs.declared.trouble.Trouble.{Trouble}
use Rattle.usb_diagnosis.specs.declared.trouble.Trouble.TheVariants.{Missing, Unknown, Wrong}
use Rattle.usb_diagnosis.specs.declared.trouble.Trouble.TheVariants.{OneTooMany}
use Rattle.usb_plan.specs.declared.fault.Place.{Place}
use Rattle.usb_diagnosis.specs.declared.within.Inner.{Inner}
use Rattle.usb_diagnosis.specs.declared.within.Inner.TheVariants.{Endpoint, Request}
use Rattle.usb_plan.specs.{endpoint_keys, request_keys}
use Rattle.usb_diagnosis.specs.Entry.{entry_keys}
use Rattle.usb_diagnosis.specs.Key.{key_name}

-- a key that is told missing is absent, one that is told unknown is none of the entry's keys, and a
-- value that is told wrong stands at its key
abbrev pub IsTroubleOf : Place → Members → Trouble → Type 0
IsTroubleOf place entry (Missing key) = get_member (key_name key) entry ≡ None
IsTroubleOf place entry (Unknown name) = list_any (bytes_eq name.now) (entry_keys place entry)
    ≡ false
IsTroubleOf place entry (Wrong key value) = get_member (key_name key) entry ≡ Some (view value.now)
IsTroubleOf place entry OneTooMany = ⊤

-- the keys of a table within a device
abbrev pub inner_keys : Inner → List (List ℕ)
inner_keys Endpoint = endpoint_keys
inner_keys Request = request_keys

-- the same of such a table
abbrev pub IsTroubleWithin : Inner → Members → Trouble → Type 0
IsTroubleWithin inner table (Missing key) = get_member (key_name key) table ≡ None
IsTroubleWithin inner table (Unknown name) = list_any (bytes_eq name.now) (inner_keys inner) ≡ false
IsTroubleWithin inner table (Wrong key value) =
    get_member (key_name key) table ≡ Some (view value.now)
IsTroubleWithin inner table OneTooMany = ⊤
