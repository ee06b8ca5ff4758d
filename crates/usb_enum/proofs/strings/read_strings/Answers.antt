use Rattle.usb_enum.specs.{asked, unnamed}
use Rattle.std.proofs.Common.{◌∙◌, None, Some, arith, refl, sym}
use Rattle.usb_enum.proofs.Parts.{asking, gone_joined, gone_none, gone_then, gone_wider}
use Rattle.usb_enum.proofs.Parts.{part_failed}
use Rattle.usb_enum.proofs.readings.StringReadings.{string_stops, strings_read, at_language}
use Rattle.usb_enum.proofs.readings.StringReadings.{same_strings, string_at-zero}
use Rattle.usb_enum.proofs.readings.StringReadings.{string_at-no_language}
use Rattle.usb_enum.proofs.readings.Readings.{learns_none, learns_wider, learns_both}
use Rattle.usb_enum.proofs.strings.read_strings.Goals as goal

pub returns-then-indexes-eq0-3-clause-read : goal.returns-then-indexes-eq0-3-clause-read
returns-then-indexes-eq0-3-clause-read g c = record {
  gone = gone_none _ asking;
  ends = λ known. rw c.no_strings.ensures (record {
    told = unnamed (record {
      manufacturer = c.if-indexes-eq0.true;
      product = c.if-indexes-eq0-2.true;
      serial_number = c.if-indexes-eq0-3.true;
    }) refl refl;
    so = learns_none (λ spec max. same_strings
        (sym (string_at-zero spec c.args.indexes.manufacturer c.if-indexes-eq0.true))
        (sym (string_at-zero spec c.args.indexes.product c.if-indexes-eq0-2.true))
        (sym (string_at-zero spec c.args.indexes.serial_number c.if-indexes-eq0-3.true)));
  });
}

pub returns-in_default-clause-read : goal.returns-in_default-clause-read
returns-in_default-clause-read g c =
    let language = c.in_ok-language.ensures.read in
    record {
      gone = gone_wider language.gone (omega arith);
      ends = λ known.
          let none = rw c.in_default.is at (language.ends known) in
          rw c.no_strings-in_default.ensures (record {
            told = asked (g.B.Bus.world c.language.new.bus) None none.told (refl, refl);
            so = learns_wider (g.B.Bus.world c.language.new.bus) none.so (λ spec none max.
                same_strings
                (sym (string_at-no_language spec c.args.indexes.manufacturer (none max)))
                (sym (string_at-no_language spec c.args.indexes.product (none max)))
                (sym (string_at-no_language spec c.args.indexes.serial_number (none max))));
          });
    }

pub returns-clause-read : goal.returns-clause-read
returns-clause-read g c =
    let language = c.in_ok-language.ensures.read in
    let manufacturer = c.in_ok-manufacturer.ensures.read in
    let product = c.in_ok-product.ensures.read in
    let serial_number = c.in_ok-serial_number.ensures.read in
    record {
      gone = gone_then asking (gone_joined asking (gone_joined asking language.gone
          manufacturer.gone) product.gone) serial_number.gone (omega arith);
      ends = λ known.
          let said = rw c.in-Some.is at (language.ends known) in
          let one = manufacturer.ends known in
          let two = product.ends known in
          let three = serial_number.ends known in
          record {
            told = asked (g.B.Bus.world c.language.new.bus) (Some c.in-Some.language) said.told
                (record {
                  first = _;
                  manufacturer = one.told;
                  second = _;
                  product = two.told;
                  serial_number = three.told;
                });
            so = learns_wider (g.B.Bus.world c.read_one-3.new.bus) (learns_both
                (learns_both (learns_both said.so (manufacturer.gone.steps known).went one.so)
                (product.gone.steps known).went two.so) (serial_number.gone.steps known).went
                three.so) (λ spec read max.
                let language = read.0.0.0 max in
                same_strings (read.0.0.1 max
                ∙ sym (at_language spec c.args.indexes.manufacturer language))
                (read.0.1 max ∙ sym (at_language spec c.args.indexes.product language))
                (read.1 max ∙ sym (at_language spec c.args.indexes.serial_number language)));
          };
    }

pub returns-in_err-language-clause-read : goal.returns-in_err-language-clause-read
returns-in_err-language-clause-read g c =
    let language = c.in_err-language.ensures.read in
    part_failed c.from_residual.ensures.1 (gone_wider language.gone (omega arith)) language.ends

pub returns-in_err-manufacturer-clause-read : goal.returns-in_err-manufacturer-clause-read
returns-in_err-manufacturer-clause-read g c =
    let language = c.in_ok-language.ensures.read in
    let stop = c.in_err-manufacturer.ensures.read in
    part_failed c.from_residual-in_err-manufacturer.ensures.1
    (gone_then asking language.gone stop.gone (omega arith)) (λ known. string_stops _ _
    (language.gone.steps known) (language.ends known).so (stop.gone.steps known) (stop.ends known))

pub returns-in_err-product-clause-read : goal.returns-in_err-product-clause-read
returns-in_err-product-clause-read g c =
    let language = c.in_ok-language.ensures.read in
    let manufacturer = c.in_ok-manufacturer.ensures.read in
    let stop = c.in_err-product.ensures.read in
    let first = gone_joined asking language.gone manufacturer.gone in
    part_failed c.from_residual-in_err-product.ensures.1
    (gone_then asking first stop.gone (omega arith)) (λ known. string_stops _ _ (first.steps known)
    (strings_read c.args.target (language.ends known).so (manufacturer.gone.steps known)
    (manufacturer.ends known).so) (stop.gone.steps known) (stop.ends known))

pub returns-in_err-serial_number-clause-read : goal.returns-in_err-serial_number-clause-read
returns-in_err-serial_number-clause-read g c =
    let language = c.in_ok-language.ensures.read in
    let manufacturer = c.in_ok-manufacturer.ensures.read in
    let product = c.in_ok-product.ensures.read in
    let stop = c.in_err-serial_number.ensures.read in
    let first = gone_joined asking (gone_joined asking language.gone manufacturer.gone) product.gone
    in
    part_failed c.from_residual-in_err-serial_number.ensures.1
    (gone_then asking first stop.gone (omega arith)) (λ known. string_stops _ _ (first.steps known)
    (strings_read c.args.target (strings_read c.args.target (language.ends known).so
    (manufacturer.gone.steps known) (manufacturer.ends known).so) (product.gone.steps known)
    (product.ends known).so) (stop.gone.steps known) (stop.ends known))
