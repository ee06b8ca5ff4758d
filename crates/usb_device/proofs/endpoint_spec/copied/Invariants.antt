use Rattle.std.proofs.Common.{◌≡◌, take}
use Rattle.usb_device.proofs.endpoint_spec.copied.Given as goal

abbrev pub invariant-rows : goal.invariant-rows
invariant-rows l = l.all.items ≡ take l.row-index l.rows
