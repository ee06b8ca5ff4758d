use Rattle.usb_bench.proofs.Receiving.{after_data_of}
use Rattle.usb_bench.proofs.received.after_digits.Goals as goal

pub returns-in-Ok-clause-after : goal.returns-in-Ok-clause-after
returns-in-Ok-clause-after g c = after_data_of _ c.source_at.result.now
    c.args.digits.now c.in-Ok.bytes.items c.as_slice.result.now _ c.window_at-window.result
    c.after_data.result c.source_at.ensures
    c.window_at-window.ensures c.as_slice.ensures.value c.in-Ok.ensures.bytes
    c.after_data.ensures.some c.after_data.ensures.none
