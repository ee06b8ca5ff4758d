-- How a place is told.
use Rattle.std.specs.Prelude.{ℕ, codes, List, ◌++◌}
use Rattle.std.specs.Fmt.{decimal}
use Rattle.usb_plan.specs.declared.fault.Place.{Place}
use Rattle.usb_plan.specs.declared.fault.Place.TheVariants.{Top, Device, Event, Damage}

abbrev pub place_text : Place → List ℕ
place_text Top = codes "top"
place_text (Device n) = codes "device " ++ decimal n
place_text (Event n) = codes "event " ++ decimal n
place_text (Damage n) = codes "damage " ++ decimal n
