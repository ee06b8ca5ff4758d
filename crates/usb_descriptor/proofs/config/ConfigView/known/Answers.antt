use Rattle.usb_descriptor.proofs.Texts.{header_of}
use Rattle.usb_descriptor.proofs.config.ConfigView.known.Goals as goal

pub invariant_of-result : goal.invariant_of-result
invariant_of-result c =
    let header = header_of c.args.bytes.now _ c.requires.header in
    (header.long, header.valued, header.says, c.requires)
