use Rattle.std.proofs.Common.{◌≡◌}
use Rattle.std.specs.List.{list_any}
use Rattle.usb_descriptor.specs.{items_of}
use Rattle.usb_judge.specs.{is_out_for}
use Rattle.usb_judge.proofs.packet_size.has_out.Given as goal

abbrev pub invariant-items : goal.invariant-items
invariant-items l = record {
  next : (goal.iterator-items).can_next l.item-iterator;
  ends : (goal.iterator-items).is_finite l.item-iterator;
  so_far : list_any (is_out_for l.number l.bytes) l.item-iterator
      ≡ list_any (is_out_for l.number l.bytes) (items_of l.config);
}
