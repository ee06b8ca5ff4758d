use Rattle.std.proofs.Common.{◌≡◌}
use Rattle.std.specs.List.{list_any}
use Rattle.usb_descriptor.specs.{has_interface, is_interface, items_of}
use Rattle.usb_descriptor.proofs.config.ConfigView.has_interface.Given as goal

abbrev pub invariant-loop-item : goal.invariant-loop-item
invariant-loop-item l = record {
  next : (goal.iterator-loop-item).can_next l.item-iterator;
  ends : (goal.iterator-loop-item).is_finite l.item-iterator;
  so_far : list_any (is_interface l.interface) l.item-iterator
      ≡ has_interface l.interface (items_of l.self);
}
