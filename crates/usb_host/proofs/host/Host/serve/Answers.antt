use Rattle.std.proofs.Common.{◌*◌, arith, ◌∙◌, sym}
use Rattle.usb_transfer.specs.{write_bound}
use Rattle.usb_host.proofs.PartCalls.{port_after, port_rests}
use Rattle.usb_host.proofs.StepSums.{handed_is}
use Rattle.usb_enum.specs.{read_bound}
use Rattle.usb_host.proofs.PortServes.{serve_failed, serve_fails, serve_looked, serve_settled}
use Rattle.usb_host.proofs.PortLocations.{placed, placed_on}
use Rattle.usb_host.proofs.host.Host.serve.Goals as goal

pub enumerate_again-requires : goal.enumerate_again-requires
enumerate_again-requires g c =
    placed_on _ (read_bound 4)
    c.in_ok-status.ensures.rests (λ known. (c.status.ensures.shows known).requested.goes.went)
    c.requires

pub look_after_error-requires : goal.look_after_error-requires
look_after_error-requires g c =
    placed_on _ (read_bound 4)
    c.in_ok-status.ensures.rests (λ known. (c.status.ensures.shows known).requested.goes.went)
    c.requires

pub returns-in_err-status : goal.returns-in_err-status
returns-in_err-status g c = record {
  call = port_rests c.status.ensures.spends (rw (handed_is c.from_residual.ensures.1)
      c.in_err-status.ensures.told) c.in_err-status.ensures.rests (omega arith);
  serves = λ known.
      rw (handed_is c.from_residual.ensures.1) (serve_fails c.args.port (placed known c.requires)
      c.in_err-status.ensures.rests (c.in_err-status.ensures.shows known));
}

pub returns-then-status : goal.returns-then-status
returns-then-status g c = record {
  call = port_after _ c.enumerate_again.ensures.call
      c.status.ensures.spends c.in_ok-status.ensures.rests (omega arith);
  serves = λ known. serve_looked (placed known c.requires) c.in_ok-status.ensures.rests
      (c.in_ok-status.ensures.shows known) c.if-status.true (c.enumerate_again.ensures.looks known);
}

pub returns-then-has_failed : goal.returns-then-has_failed
returns-then-has_failed g c = record {
  call = port_after _ c.look_after_error.ensures.call
      c.status.ensures.spends c.in_ok-status.ensures.rests (omega arith);
  serves = λ known. serve_failed (placed known c.requires) c.in_ok-status.ensures.rests
      (c.in_ok-status.ensures.shows known) c.if-status.false
      (sym c.has_failed.ensures ∙ c.if-has_failed.true)
      (c.look_after_error.ensures.looks known)
      c.look_after_error.ensures.call.hubs;
}

pub returns-else-has_failed : goal.returns-else-has_failed
returns-else-has_failed g c = record {
  call = port_after _ (port_rests {k = 4 * write_bound}
      c.settle.ensures.spends c.settle.ensures.told c.settle.ensures.rests (omega arith))
      c.status.ensures.spends c.in_ok-status.ensures.rests (omega arith);
  serves = λ known. serve_settled (placed known c.requires) c.in_ok-status.ensures.rests
      (c.in_ok-status.ensures.shows known) c.if-status.false
      c.settle.ensures.rests (c.settle.ensures.settles known)
      (sym c.has_failed.ensures ∙ c.if-has_failed.false);
}
