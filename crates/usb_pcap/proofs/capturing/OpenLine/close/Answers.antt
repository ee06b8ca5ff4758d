use Rattle.std.proofs.Common.{◌∙◌, refl}
use Rattle.usb_pcap.proofs.Captures.{stands_closed, went_front, went_refused}
use Rattle.usb_pcap.proofs.ShownNames.{shown_decided}
use Rattle.usb_pcap.proofs.capturing.OpenLine.close.Goals as goal

pub returns-in_default-clause-comes : goal.returns-in_default-clause-comes
returns-in_default-clause-comes g c = λ w text h. went_refused w _ _ _ h
    (λ line e long shown. c.in_default.ensures line (c.as_slice.ensures.value ∙ e) long
    (shown_decided _ _ _ c.is_empty-shown.ensures shown))

pub returns-in-Err-clause-comes : goal.returns-in-Err-clause-comes
returns-in-Err-clause-comes g c = λ w text h.
    went_front w _ _ _ c.in-Some.records.items _ h
    (λ line e long shown. c.in-Some.ensures line (c.as_slice.ensures.value ∙ e) long
    (shown_decided _ _ _ c.is_empty-shown.ensures shown))
    (rw c.as_slice-2.ensures.value at c.put_piece.ensures.front)

pub returns-in-Ok-clause-comes : goal.returns-in-Ok-clause-comes
returns-in-Ok-clause-comes g c = λ w text h.
    stands_closed w _ _ _ c.in-Some.records.items _ _ h
    (λ line e long shown. c.in-Some.ensures line (c.as_slice.ensures.value ∙ e) long
    (shown_decided _ _ _ c.is_empty-shown.ensures shown))
    (rw c.as_slice-2.ensures.value at c.in-Ok.ensures.ok)
    c.saturating_add-self.ensures c.clear.ensures refl
    c.clear-in-Ok.ensures (rw c.as_slice-in-Ok.ensures.value at c.has_packets-self.ensures)
