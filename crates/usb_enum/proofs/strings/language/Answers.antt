use Rattle.usb_enum.specs.{bytes_given, first_language_of}
use Rattle.std.proofs.Common.{◌∙◌, ap, option_and_then, sym}
use Rattle.usb_enum.proofs.Parts.{part_failed}
use Rattle.usb_enum.proofs.readings.StringReadings.{language_asked}
use Rattle.usb_enum.proofs.strings.language.Goals as goal

pub returns-in-Some-clause-read : goal.returns-in-Some-clause-read
returns-in-Some-clause-read g c =
    let read = c.in_ok-bytes.ensures.read in
    record {
      gone = read.gone;
      ends = λ known. language_asked c.args.target c.in_ok-bytes.field-0 _
          (c.first_language.ensures ∙ ap first_language_of c.as_slice.ensures.value
          ∙ ap (λ o. option_and_then first_language_of (bytes_given o)) (sym c.in-Some.is))
          (read.ends known);
    }

pub returns-in-None-clause-read : goal.returns-in-None-clause-read
returns-in-None-clause-read g c =
    let read = c.in_ok-bytes.ensures.read in
    record {
      gone = read.gone;
      ends = λ known. language_asked c.args.target c.in_ok-bytes.field-0 _
          (ap (λ o. option_and_then first_language_of (bytes_given o)) (sym c.in-None.is))
          (read.ends known);
    }

pub returns-in_err-bytes-clause-read : goal.returns-in_err-bytes-clause-read
returns-in_err-bytes-clause-read g c =
    let read = c.in_err-bytes.ensures.read in
    part_failed c.from_residual.ensures.1 read.gone read.ends
