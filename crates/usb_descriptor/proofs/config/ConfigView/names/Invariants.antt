use Rattle.std.proofs.Common.{◌≡◌, ◌==◌}
use Rattle.usb_descriptor.specs.{items_of, named_after, names}
use Rattle.usb_descriptor.proofs.config.ConfigView.names.Given as goal

abbrev pub invariant-loop-item : goal.invariant-loop-item
invariant-loop-item l = record {
  next : (goal.iterator-loop-item).can_next l.item-iterator;
  ends : (goal.iterator-loop-item).is_finite l.item-iterator;
  so_far : named_after (λ other. other == l.interface) l.is_in l.number l.is_own l.item-iterator
      ≡ names l.interface l.is_in l.number (items_of l.self);
}
