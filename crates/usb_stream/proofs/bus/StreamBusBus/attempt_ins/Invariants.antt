use Rattle.std.proofs.Common.{◌≡◌, ◌*◌, length, None, Some}
use Rattle.usb_packet.specs.{flips}
use Rattle.usb_bus.specs.{Spends}
use Rattle.usb_stream.specs.{LiveFault, ins_plan, kept_of, unread_of, written_of}
use Rattle.usb_stream.proofs.Rows.{SoFar}
use Rattle.usb_stream.proofs.bus.StreamBusBus.attempt_ins.Given as goal

-- the packets so far were moved; a bus with a fault has moved none
abbrev pub invariant-packets : goal.invariant-packets
invariant-packets g l = (length l.got.items ≡ l.moved * l.fn.to.max)
    × (l.due ≡ flips l.moved l.fn.toggle)
    × Spends (λ bus. (kept_of bus).attempts) (λ bus. (kept_of bus).roots) l.moved l.fn.self l.self
    × ((f : LiveFault) → (kept_of l.fn.self).fault ≡ Some f → (l.moved ≡ 0) × (l.self ≡ l.fn.self))
    × ((kept_of l.fn.self).fault ≡ None
    → SoFar (ins_plan (kept_of l.fn.self).rows l.fn.to l.fn.toggle l.fn.most)
    (unread_of g.R.Read.remaining l.fn.self) (written_of g.W.Write.contents l.fn.self)
    (kept_of l.fn.self) l.moved l.got.items (unread_of g.R.Read.remaining l.self)
    (written_of g.W.Write.contents l.self) (kept_of l.self))
