use Rattle.usb_host.proofs.arrivals.KeptNumbers.{keeps_rests}
use Rattle.usb_host.proofs.PartCalls.{call_finished}
use Rattle.usb_host.proofs.PortServes.{own_finished}
use Rattle.usb_host.proofs.PortLocations.{breaks, placed}
use Rattle.std.proofs.Common.{arith}
use Rattle.usb_host.proofs.host.Host.handle_own.Goals as goal

pub drop_lost_parent-requires-clause-broke : goal.drop_lost_parent-requires-clause-broke
drop_lost_parent-requires-clause-broke g c known =
    breaks c.clear_own-cleared.result _ (placed known c.requires)
    (c.clear_own-cleared.ensures.clears known).requested.told

pub returns : goal.returns
returns g c = record {
  call = call_finished _ c.clear_own-cleared.result c.drop_lost_parent.ensures.call
      c.drop_lost_parent.ensures.ends.ends
      c.clear_own-cleared.ensures.spends
      (keeps_rests c.args.self.now c.clear_own-cleared.ensures.rests) (λ known.
      (c.clear_own-cleared.ensures.clears known).requested.works)
      (omega arith);
  serves = λ known. own_finished (placed known c.requires)
      c.drop_lost_parent.ensures.ends.ends (c.drop_lost_parent.ensures.finishes known)
      c.clear_own-cleared.ensures.rests (c.clear_own-cleared.ensures.clears known);
}
