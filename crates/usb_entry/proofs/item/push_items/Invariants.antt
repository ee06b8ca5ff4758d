use Rattle.std.proofs.Common.{◌≡◌, ◌++◌, flat_map}
use Rattle.usb_descriptor.specs.{items_of}
use Rattle.usb_entry.specs.{item_line}
use Rattle.usb_entry.proofs.item.push_items.Given as goal

-- the lines of the items so far are written
abbrev pub invariant-loop-item : goal.invariant-loop-item
invariant-loop-item l = record {
  next : (goal.iterator-loop-item).can_next l.item-iterator;
  ends : (goal.iterator-loop-item).is_finite l.item-iterator;
  so_far : l.out.items ++ flat_map item_line l.item-iterator ≡ l.fn.out.items ++ flat_map item_line
      (items_of l.config);
}
