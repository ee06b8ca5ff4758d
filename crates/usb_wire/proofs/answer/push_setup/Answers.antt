use Rattle.std.proofs.Common.{◌∙◌, ◌+◌, ◌++◌, ap, length, length-append}
use Rattle.usb_packet.specs.{hex_text}
use Rattle.usb_request.specs.{bytes_of}
use Rattle.usb_wire.proofs.SetupLemmas.{length-setup_text}
use Rattle.usb_wire.proofs.answer.push_setup.Goals as goal

pub returns-clause-few : goal.returns-clause-few
returns-clause-few c =
    let line = c.args.line.now.bytes in
    ap length (c.push_bytes.ensures ∙ ap (λ bytes. line ++ hex_text bytes) c.to_bytes.ensures.bytes)
    ∙ length-append line (hex_text (bytes_of c.args.setup))
    ∙ ap (λ n. length line + n) (length-setup_text c.args.setup)
