use Rattle.std.proofs.Common.{◌≡◌}
use Rattle.usb_descriptor.specs.{items_of, first_counting, first_from, pick_of}
use Rattle.usb_descriptor.proofs.choice.first_counting.Given as goal

abbrev pub invariant-loop-item : goal.invariant-loop-item
invariant-loop-item l = record {
  next : (goal.iterator-loop-item).can_next l.item-iterator;
  ends : (goal.iterator-loop-item).is_finite l.item-iterator;
  so_far : first_from (pick_of l.purpose) l.counts l.item-iterator
      ≡ first_counting (pick_of l.purpose) (items_of l.config);
}
