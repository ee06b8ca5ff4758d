use Rattle.std.proofs.Common.{◌≡◌, take}
use Rattle.usb_device.proofs.lists.copied.Given as goal

abbrev pub invariant-texts : goal.invariant-texts
invariant-texts g l = l.all.items ≡ take l.text-index l.texts
