use Rattle.std.proofs.Common.{sym, arith}
use Rattle.usb_entry.proofs.Descriptors.{device_at, too_many}
use Rattle.usb_entry.proofs.reading.device_at.Goals as goal

pub returns-then-configurations-gt-MOST_CONFIGS-clause-err :
    goal.returns-then-configurations-gt-MOST_CONFIGS-clause-err
returns-then-configurations-gt-MOST_CONFIGS-clause-err c =
    too_many c.min.result c.args.bytes.now c.in-Ok.device (omega arith)
    (sym c.in-Ok.ensures.answer) c.in-Ok.ensures.view (omega arith)

pub returns-else-configurations-gt-MOST_CONFIGS-clause-ok :
    goal.returns-else-configurations-gt-MOST_CONFIGS-clause-ok
returns-else-configurations-gt-MOST_CONFIGS-clause-ok c =
    device_at c.min.result c.args.bytes.now c.in-Ok.device (omega arith)
    (sym c.in-Ok.ensures.answer) c.in-Ok.ensures.view (omega arith)
