use Rattle.std.proofs.Common.{◌≡◌, ◌==◌, not}
use Rattle.usb_descriptor.specs.{items_of, named_after, names_elsewhere}
use Rattle.usb_descriptor.proofs.config.ConfigView.names_elsewhere.Given as goal

abbrev pub invariant-loop-item : goal.invariant-loop-item
invariant-loop-item l = record {
  next : (goal.iterator-loop-item).can_next l.item-iterator;
  ends : (goal.iterator-loop-item).is_finite l.item-iterator;
  so_far : named_after (λ other. not (other == l.interface)) l.is_in l.number l.is_other
      l.item-iterator ≡ names_elsewhere l.interface l.is_in l.number (items_of l.self);
}
