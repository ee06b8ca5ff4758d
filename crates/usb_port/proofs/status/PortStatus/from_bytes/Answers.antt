use Rattle.std.proofs.Common.{ap, ◌∙◌}
use Rattle.usb_port.specs.{status_in}
use Rattle.usb_port.proofs.StatusLaws.{status_seen}
use Rattle.usb_port.proofs.status.PortStatus.from_bytes.Goals as goal

pub returns-clause-port : goal.returns-clause-port
unfolding status_in
returns-clause-port c p e =
    rw (
      c.has_bit.ensures,
      c.has_bit-2.ensures,
      c.has_bit-3.ensures,
      c.has_bit-4.ensures,
      c.has_bit-5.ensures,
      c.has_bit-6.ensures,
      c.has_bit-7.ensures,
      c.has_bit-8.ensures,
      c.has_bit-9.ensures,
    ) (ap status_in e ∙ status_seen p)
