use Rattle.std.proofs.Common.{◌≡◌}
use Rattle.std.specs.List.{list_any}
use Rattle.usb_descriptor.specs.{has_setting, is_setting, items_of}
use Rattle.usb_descriptor.proofs.interfaces.has_setting.Given as goal

abbrev pub invariant-loop-item : goal.invariant-loop-item
invariant-loop-item l = record {
  next : (goal.iterator-loop-item).can_next l.item-iterator;
  ends : (goal.iterator-loop-item).is_finite l.item-iterator;
  so_far : list_any (is_setting l.interface l.setting) l.item-iterator
      ≡ has_setting l.interface l.setting (items_of l.config);
}
