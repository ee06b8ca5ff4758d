use Rattle.std.proofs.Common.{◌≡◌}
use Rattle.usb_descriptor.specs.{items_of}
use Rattle.usb_entry.specs.{items_fit}
use Rattle.usb_entry.proofs.speed.items_fit.Given as goal

abbrev pub invariant-loop-item : goal.invariant-loop-item
invariant-loop-item l = record {
  next : (goal.iterator-loop-item).can_next l.item-iterator;
  ends : (goal.iterator-loop-item).is_finite l.item-iterator;
  so_far : items_fit l.item-iterator ≡ items_fit (items_of l.config);
}
