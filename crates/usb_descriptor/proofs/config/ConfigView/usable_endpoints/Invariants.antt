use Rattle.std.proofs.Common.{◌≡◌, ℕ, Bool}
use Rattle.usb_descriptor.specs.{items_of, counting_of, end_at, usable_at}
use Rattle.usb_descriptor.proofs.UsableItems.{usable_from}
use Rattle.usb_descriptor.proofs.config.ConfigView.usable_endpoints.Given as goal

abbrev pub invariant-loop-item : goal.invariant-loop-item
invariant-loop-item l = record {
  next : (goal.iterator-loop-item).can_next l.item-iterator;
  ends : (goal.iterator-loop-item).is_finite l.item-iterator;
  so_far : (to_host : Bool) (e : ℕ) → counting_of (end_at l.table to_host e)
      (usable_from l.settings l.low to_host e l.inside l.item-iterator)
      ≡ usable_at l.settings l.low to_host e (items_of l.self);
}
