use Rattle.std.proofs.Common.{sym}
use Rattle.usb_entry.proofs.Descriptors.{front_config}
use Rattle.usb_entry.proofs.reading.front_config.Goals as goal

pub returns-clause-ok : goal.returns-clause-ok
returns-clause-ok c =
    let read = c.in_ok-read_config.ensures in
    front_config c.min.result c.args.bytes.now c.in_ok-read_config.field-0 (sym read.answer)
    read.view
