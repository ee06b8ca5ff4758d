use Rattle.usb_host.proofs.PartCalls.{port_after, port_rests}
use Rattle.usb_host.proofs.StepSums.{handed_is}
use Rattle.std.proofs.Common.{arith}
use Rattle.usb_host.specs.{clearing_bound}
use Rattle.usb_host.proofs.PortServes.{error_look_done, error_look_fails}
use Rattle.usb_host.proofs.PortLocations.{placed, placed_on}
use Rattle.usb_host.proofs.host.Host.look_after_error.Goals as goal

pub renew-requires : goal.renew-requires
renew-requires g c =
    placed_on _ clearing_bound
    c.in_ok-status.ensures.rests (λ known. (c.clear_error.ensures.clears known).requested.goes.went)
    c.requires

pub returns-in_err-status : goal.returns-in_err-status
returns-in_err-status g c = record {
  call = port_rests c.clear_error.ensures.spends (rw (handed_is c.from_residual.ensures.1)
      c.in_err-status.ensures.told) c.in_err-status.ensures.rests (omega arith);
  looks = λ known.
      rw (handed_is c.from_residual.ensures.1) (error_look_fails c.args.path.now c.args.port
      c.in_err-status.ensures.rests
      (c.in_err-status.ensures.clears known));
}

pub returns : goal.returns
returns g c = record {
  call = port_after _ c.renew.ensures.call
      c.clear_error.ensures.spends c.in_ok-status.ensures.rests (omega arith);
  looks = λ known. error_look_done (placed known c.requires) c.in_ok-status.ensures.rests
      (c.in_ok-status.ensures.clears known) (c.renew.ensures.renews known);
}
