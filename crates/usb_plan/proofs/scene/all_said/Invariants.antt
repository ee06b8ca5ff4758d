use Rattle.std.proofs.Common.{◌≡◌, map, take}
use Rattle.toml.specs.View.{view}
use Rattle.usb_plan.specs.{ports_said}
use Rattle.usb_plan.proofs.scene.all_said.Given as goal

abbrev pub invariant-tables : goal.invariant-tables
invariant-tables l = l.ports.items ≡ map ports_said (map view (take l.table-index l.tables))
