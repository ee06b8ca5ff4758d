use Rattle.std.proofs.Common.{◌≡◌, ◌^◌, ◌<◌, ◌∙◌, ap, refl, sym, arith, true}
use Rattle.usb_wire.specs.{number_of_word, is_decimal}
use Rattle.usb_wire.proofs.FieldLemmas.{within-unparsed}
use Rattle.usb_wire.proofs.field.number_of_word.Goals as goal

pub returns-in_default-clause-value : goal.returns-in_default-clause-value
unfolding number_of_word
returns-in_default-clause-value c =
    let small : c.args.most < 2 ^ 64 = omega (arith, c.ranges.most.fits) in
    let digits : is_decimal c.args.word.now ≡ true = ap is_decimal (sym c.as_bytes.ensures.value)
    ∙ sym c.is_decimal.ensures ∙ c.if-not-is_decimal.false in
    let refused = c.in_default.ensures.value in
    rw (within-unparsed c.args.least c.args.most c.args.word.now c.in_default.field-0 small digits
    refused.0) refl
