use Rattle.std.proofs.Common.{◌≡◌, ◌∙◌, true, sym}
use Rattle.std.proofs.lemmas.Str.{IsUtf8-from_ascii}
use Rattle.usb_wire.specs.{all_printable}
use Rattle.usb_wire.proofs.WordLemmas.{IsAscii-printable}
use Rattle.usb_wire.proofs.reading.text_of_line.Goals as goal

pub returns-in-Err : goal.returns-in-Err
returns-in-Err c =
    let printable : all_printable c.args.line.now ≡ true = sym c.all_printable.ensures
    ∙ c.if-not-all_printable.false in
    absurd (c.in-Err.ensures.cases.0 (IsUtf8-from_ascii c.args.line.now
    (IsAscii-printable c.args.line.now printable)))
