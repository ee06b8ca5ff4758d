use Rattle.usb_dialogue.proofs.WantLaws.{want_record-read}
use Rattle.usb_dialogue.proofs.want.Want.read.Goals as goal

pub returns-clause-only : goal.returns-clause-only
returns-clause-only c = want_record-read c.args.bytes.now c.want_in.result c.want_in.ensures.read
    c.want_in.ensures.cause
