use Rattle.std.proofs.Common.{◌≡◌, map, take}
use Rattle.toml.specs.View.{view}
use Rattle.usb_places.specs.{plain}
use Rattle.usb_places.proofs.places.all_plain.Given as goal

abbrev pub invariant-values : goal.invariant-values
invariant-values l = map view l.done.items ≡ map plain (map view (take l.value-index l.values))
