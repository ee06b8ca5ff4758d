use Rattle.std.proofs.Common.{◌≡◌, take}
use Rattle.usb_places.proofs.known.damage_copies.Given as goal

abbrev pub invariant-damages : goal.invariant-damages
invariant-damages l = l.done ≡ take l.damage-index l.damages
