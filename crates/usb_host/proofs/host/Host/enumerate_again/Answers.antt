use Rattle.usb_host.proofs.PartCalls.{port_after, port_handed, port_leaves, port_rests}
use Rattle.usb_host.proofs.StepSums.{handed_is}
use Rattle.std.proofs.Common.{Ok, arith}
use Rattle.usb_host.specs.{clearing_bound}
use Rattle.usb_host.proofs.BusCounts.{root_cleared}
use Rattle.usb_host.proofs.PortServes.{look_done, look_fails}
use Rattle.usb_host.proofs.PortLocations.{placed, placed_on}
use Rattle.usb_host.proofs.host.Host.enumerate_again.Goals as goal

pub renew-requires : goal.renew-requires
renew-requires g c =
    placed_on _ clearing_bound
    c.in_ok-status.ensures.rests (λ known.
    (c.clear_change.ensures.clears known).requested.goes.went)
    c.requires

pub leave-requires : goal.leave-requires
leave-requires g c known =
    root_cleared c.args.port.port (placed known c.requires).there
    (c.in_ok-status.ensures.clears known)

pub returns-in_err-status : goal.returns-in_err-status
returns-in_err-status g c = record {
  call = port_rests c.clear_change.ensures.spends (rw (handed_is c.from_residual.ensures.1)
      c.in_err-status.ensures.told) c.in_err-status.ensures.rests (omega arith);
  looks = λ known.
      rw (handed_is c.from_residual.ensures.1) (look_fails c.args.port (placed known c.requires)
      c.in_err-status.ensures.rests (c.in_err-status.ensures.clears known));
}

pub returns-in_err-renew : goal.returns-in_err-renew
returns-in_err-renew g c = record {
  call = port_after _ (port_handed
      c.from_residual-in_err-renew.ensures.1 c.in_err-renew.ensures.call)
      c.clear_change.ensures.spends c.in_ok-status.ensures.rests (omega arith);
  looks = λ known.
      rw (handed_is c.from_residual-in_err-renew.ensures.1) (look_done _ (placed known c.requires)
      c.in_ok-status.ensures.rests
      (c.in_ok-status.ensures.clears known) (c.in_err-renew.ensures.renews known));
}

pub returns : goal.returns
returns g c = record {
  call = port_leaves (port_after _ c.in_ok-renew.ensures.call
      c.clear_change.ensures.spends c.in_ok-status.ensures.rests (omega arith)) c.leave.ensures;
  looks = λ known. rw (c.leave.ensures.none known) (look_done (Ok tt) (placed known c.requires)
      c.in_ok-status.ensures.rests (c.in_ok-status.ensures.clears known)
      (c.in_ok-renew.ensures.renews known));
}
