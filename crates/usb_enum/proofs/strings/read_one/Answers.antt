use Rattle.usb_enum.specs.{Memory, bytes_given, no_fault, unnamed, string_units}
use Rattle.std.proofs.Common.{◌∙◌, ap, option_and_then, refl, sym}
use Rattle.usb_enum.proofs.Parts.{asking, gone_none, gone_stopped, part_failed}
use Rattle.usb_enum.proofs.refusals.Refusals.{fault_explains}
use Rattle.usb_enum.proofs.readings.StringReadings.{string_named}
use Rattle.usb_enum.proofs.readings.Readings.{learns_none}
use Rattle.usb_enum.proofs.strings.read_one.Goals as goal

pub returns-then-index-eq0-clause-read : goal.returns-then-index-eq0-clause-read
returns-then-index-eq0-clause-read g c = record {
  gone = gone_none _ asking;
  ends = λ known. record {
    told = unnamed c.if-index-eq0.true refl refl;
    so = learns_none (λ spec max. rw c.if-index-eq0.true refl);
  };
}

pub returns-in_ok-units_of-in-Some-clause-read : goal.returns-in_ok-units_of-in-Some-clause-read
returns-in_ok-units_of-in-Some-clause-read g c =
    let read = c.in_ok-bytes.ensures.read in
    record {
      gone = read.gone;
      ends = λ known. string_named c.args.target c.args.index c.args.language c.in_ok-bytes.field-0
          _ c.if-index-eq0.false (c.in_ok-units_of-in-Some.ensures ∙ ap string_units
          c.as_slice.ensures.value ∙ ap (λ o. option_and_then string_units (bytes_given o))
          (sym c.in-Some.is)) (read.ends known);
    }

pub returns-in-None-clause-read : goal.returns-in-None-clause-read
returns-in-None-clause-read g c =
    let read = c.in_ok-bytes.ensures.read in
    record {
      gone = read.gone;
      ends = λ known. string_named c.args.target c.args.index c.args.language c.in_ok-bytes.field-0
          _ c.if-index-eq0.false
          (ap (λ o. option_and_then string_units (bytes_given o)) (sym c.in-None.is))
          (read.ends known);
    }

pub returns-in_err-bytes-clause-read : goal.returns-in_err-bytes-clause-read
returns-in_err-bytes-clause-read g c =
    let read = c.in_err-bytes.ensures.read in
    part_failed c.from_residual.ensures.1 read.gone read.ends

pub returns-in_err-units_of-in-Some-clause-read : goal.returns-in_err-units_of-in-Some-clause-read
returns-in_err-units_of-in-Some-clause-read g c =
    let read = c.in_ok-bytes.ensures.read in
    part_failed c.from_residual-in_err-units_of-in-Some.ensures.1 (gone_stopped read.gone tt)
    (λ known. record {
      told = tt;
      so = fault_explains no_fault Memory (g.B.Bus.world c.string_bytes.new.bus)
          (read.ends known).so;
    })
