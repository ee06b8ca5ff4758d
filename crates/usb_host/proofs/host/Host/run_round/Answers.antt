use Rattle.std.proofs.Common.{◌+◌, arith}
use Rattle.usb_host.specs.{hubs_bound, roots_bound}
use Rattle.usb_host.proofs.PartCalls.{call_then, round_fails, round_then}
use Rattle.usb_host.proofs.RoundLoops.{parts_hubless, parts_lookless, parts_made, parts_rootless}
use Rattle.usb_host.proofs.StepSums.{handed_is}
use Rattle.usb_host.proofs.host.Host.run_round.Goals as goal

pub returns-in_err-roots : goal.returns-in_err-roots
returns-in_err-roots g c = record {
  call = round_fails c.from_residual.ensures.1 c.in_err-roots.ensures.call.part (omega arith);
  parts = λ known. rw (handed_is c.from_residual.ensures.1)
      (parts_rootless (c.in_err-roots.ensures.roots known));
}

pub returns-in_err-hubs : goal.returns-in_err-hubs
returns-in_err-hubs g c = record {
  call =
      round_fails c.from_residual-in_err-hubs.ensures.1 (call_then c.in_ok-roots.ensures.call.part
      c.in_err-hubs.ensures.call.part) (omega arith);
  parts = λ known.
      rw (handed_is c.from_residual-in_err-hubs.ensures.1) (parts_hubless
      (c.in_ok-roots.ensures.roots known) (c.in_ok-roots.ensures.call.part.works known)
      (c.in_err-hubs.ensures.hubs known));
}

pub returns-in_err-looks : goal.returns-in_err-looks
returns-in_err-looks g c = record {
  call =
      round_fails c.from_residual-in_err-looks.ensures.1 (call_then c.in_ok-roots.ensures.call.part
      (call_then c.in_ok-hubs.ensures.call.part c.in_err-looks.ensures.call.part)) (omega arith);
  parts = λ known.
      rw (handed_is c.from_residual-in_err-looks.ensures.1) (parts_lookless
      (c.in_ok-roots.ensures.roots known) (c.in_ok-roots.ensures.call.part.works known)
      (c.in_ok-hubs.ensures.hubs known) (c.in_ok-hubs.ensures.call.part.works known)
      c.retry_waiting.new.self (c.in_err-looks.ensures.looks known));
}

pub returns : goal.returns
returns g c = record {
  call = rw (c.and-2.ensures, c.and.ensures) (round_then (round_then {k = roots_bound + hubs_bound}
      c.in_ok-roots.ensures.call c.in_ok-hubs.ensures.call (omega arith)) c.in_ok-looks.ensures.call
      (omega arith));
  parts = λ known.
      rw (c.and-2.ensures, c.and.ensures) (parts_made (c.in_ok-roots.ensures.roots known)
      (c.in_ok-roots.ensures.call.part.works known) (c.in_ok-hubs.ensures.hubs known)
      (c.in_ok-hubs.ensures.call.part.works known) c.retry_waiting.new.self
      (c.in_ok-looks.ensures.looks known));
}
