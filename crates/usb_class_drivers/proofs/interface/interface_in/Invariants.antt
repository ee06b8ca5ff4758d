use Rattle.std.proofs.Common.{◌≡◌, None}
use Rattle.usb_descriptor.specs.{items_of}
use Rattle.usb_class_drivers.specs.{found_from}
use Rattle.usb_class_drivers.proofs.interface.interface_in.Given as goal

abbrev pub invariant-items : goal.invariant-items
invariant-items l = record {
  next : (goal.iterator-items).can_next l.item-iterator;
  ends : (goal.iterator-items).is_finite l.item-iterator;
  so_far : found_from l.kind l.found l.item-iterator
      ≡ found_from l.kind None (items_of l.text);
}
