use Rattle.std.proofs.Common.{arith}
use Rattle.usb_host.proofs.PartCalls.{round_fails, round_none, round_worked}
use Rattle.usb_host.proofs.PortServes.{look_nowhere}
use Rattle.usb_host.proofs.Looks.{waited, waited_fails}
use Rattle.usb_host.proofs.StepSums.{handed_is}
use Rattle.usb_host.proofs.host.Host.retry_one.Goals as goal

pub returns-in_default : goal.returns-in_default
returns-in_default g c = record {
  call = round_none;
  looks = λ known. look_nowhere (c.in_default.ensures.none known) c.requires;
}

pub returns-in_err-look_over : goal.returns-in_err-look_over
returns-in_err-look_over g c = record {
  call = round_fails c.from_residual.ensures.1 c.in_err-look_over.ensures.call (omega arith);
  looks = λ known. rw (handed_is c.from_residual.ensures.1)
      (waited_fails (c.in_err-look_over.ensures.looks known));
}

pub returns : goal.returns
returns g c = record {
  call = round_worked c.in_ok-look_over.ensures.call (omega arith);
  looks = λ known. waited c.requires (c.in_ok-look_over.ensures.looks known);
}
