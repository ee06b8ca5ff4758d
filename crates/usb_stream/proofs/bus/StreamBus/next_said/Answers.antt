use Rattle.std.proofs.Common.{sym}
use Rattle.usb_stream.specs.{hubs_of, kept_of}
use Rattle.usb_stream.proofs.Hearing.{bad_line, long_line}
use Rattle.usb_stream.proofs.bus.StreamBus.next_said.Goals as goal

pub returns-in-Err-clause-err : goal.returns-in-Err-clause-err
returns-in-Err-clause-err g c =
    let read = rw c.in-Ok-Whole.field-0-is at c.in-Ok-Whole.ensures.line in
    bad_line c.args.asked (hubs_of (kept_of c.args.self.now)) _ _ c.in-Err.fault
    c.in-Ok-Whole.line.items read
    (c.in-Ok-Whole.ensures.unmarked (λ e. cc))
    (sym (rw c.as_slice.ensures.value at c.in-Err.ensures.fault))

pub returns-in-Ok-Long-clause-err : goal.returns-in-Ok-Long-clause-err
returns-in-Ok-Long-clause-err g c =
    let read = rw c.in-Ok-Long.field-0-is at c.in-Ok-Long.ensures.line in
    long_line c.args.asked (hubs_of (kept_of c.args.self.now)) _ _ c.in-Ok-Long.field-0-0.items read
    (c.in-Ok-Long.ensures.unmarked (λ e. cc))
