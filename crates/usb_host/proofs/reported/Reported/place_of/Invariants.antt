use Rattle.std.proofs.Common.{◌≡◌, ◌<◌, List, ℕ, Some}
use Rattle.std.specs.List.{slice_get}
use Rattle.std.specs.declared.cmp.Ordering.TheVariants.{Less}
use Rattle.usb_port.specs.{path_cmp}
use Rattle.usb_host.proofs.reported.Reported.place_of.Given as goal

abbrev pub invariant-devices : goal.invariant-devices
invariant-devices l = (i : ℕ) (device : List ℕ × ℕ) → i < l.place
    → slice_get l.self i ≡ Some device → path_cmp device.0 l.path ≡ Less
