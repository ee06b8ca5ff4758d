use Rattle.std.proofs.Common.{sym, ◌∙◌, arith}
use Rattle.usb_pcap.proofs.Items.{number_on-end, number_goes, number_halts, number_over}
use Rattle.usb_pcap.proofs.text.number_of.Goals as goal

pub returns-then-not-is_ascii_digit : goal.returns-then-not-is_ascii_digit
returns-then-not-is_ascii_digit c =
    number_halts _ _ _ (omega arith)
    c.digits.invariant (sym c.is_ascii_digit.ensures.value ∙ c.if-not-is_ascii_digit.true)

pub returns-in-None : goal.returns-in-None
returns-in-None c =
    number_over _ _ _ _ (omega arith)
    c.digits.invariant (sym c.is_ascii_digit.ensures.value ∙ c.if-not-is_ascii_digit.false)
    c.with_digit.ensures c.in-None.is

pub digits-preserved : goal.digits-preserved
digits-preserved c =
    number_goes _ _ _ _ _ (omega arith)
    c.digits.invariant (sym c.is_ascii_digit.ensures.value ∙ c.if-not-is_ascii_digit.false)
    c.with_digit.ensures c.in-Some.is

pub returns : goal.returns
returns c = number_on-end _ _ _ (omega arith)
    c.digits.invariant
