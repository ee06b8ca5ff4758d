use Rattle.usb_host.proofs.PartCalls.{call_finished}
use Rattle.usb_host.proofs.PortServes.{handle_finished}
use Rattle.usb_host.proofs.PortLocations.{breaks, placed}
use Rattle.std.proofs.Common.{arith}
use Rattle.usb_host.proofs.host.Host.service_port.Goals as goal

pub drop_lost_parent-requires-clause-broke : goal.drop_lost_parent-requires-clause-broke
drop_lost_parent-requires-clause-broke g c known =
    breaks c.serve-served.result _ (placed known c.requires)
    (c.serve-served.ensures.serves known).requested.told

pub returns : goal.returns
returns g c = record {
  call = call_finished _ c.serve-served.result c.drop_lost_parent.ensures.call
      c.drop_lost_parent.ensures.ends.ends
      c.serve-served.ensures.call.spends
      c.serve-served.ensures.call.numbers (λ known. (c.serve-served.ensures.serves
      known).requested.works)
      (omega arith);
  handles = λ known. handle_finished (placed known c.requires)
      c.drop_lost_parent.ensures.ends.ends (c.drop_lost_parent.ensures.finishes known)
      (c.serve-served.ensures.serves known);
}
