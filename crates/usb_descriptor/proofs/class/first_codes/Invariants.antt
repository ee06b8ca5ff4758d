use Rattle.std.proofs.Common.{◌≡◌}
use Rattle.usb_descriptor.specs.{items_of, first_codes}
use Rattle.usb_descriptor.proofs.class.first_codes.Given as goal

abbrev pub invariant-loop-item : goal.invariant-loop-item
invariant-loop-item l = record {
  next : (goal.iterator-loop-item).can_next l.item-iterator;
  ends : (goal.iterator-loop-item).is_finite l.item-iterator;
  so_far : first_codes l.item-iterator ≡ first_codes (items_of l.config);
}
