use Rattle.std.proofs.Common.{◌≡◌, ◌≤◌, length, filter, take}
use Rattle.usb_class_drivers.specs.{is_pressed}
use Rattle.usb_class_drivers.proofs.report.Report.pressed_since.Given as goal

abbrev pub invariant-keys : goal.invariant-keys
invariant-keys l =
    (l.pressed.items ≡ filter (is_pressed l.fn.earlier) (take l.key-index l.fn.self.keys))
    × (length l.pressed.items ≤ l.key-index)
