use Rattle.std.proofs.Common.{◌≡◌, ◌-◌}
use Rattle.usb_pcap.specs.{behind_items}
use Rattle.usb_pcap.proofs.item.behind_items.Given as goal

-- the rest is behind so many items
abbrev pub invariant-items : goal.invariant-items
invariant-items l = behind_items l.fn.kind l.fn.most l.fn.text
    ≡ behind_items l.kind (l.most - l.counter) l.rest
