use Rattle.std.proofs.Common.{◌≡◌, drop}
use Rattle.usb_pcap.specs.{number_on}
use Rattle.usb_pcap.proofs.text.number_of.Given as goal

-- the rest is read behind the value so far
abbrev pub invariant-digits : goal.invariant-digits
invariant-digits l = number_on 0 l.fn.text ≡ number_on l.value (drop l.digit-index l.text)
