use Rattle.usb_host.proofs.PartCalls.{call_finished}
use Rattle.std.proofs.Common.{arith}
use Rattle.usb_host.proofs.PortLocations.{breaks, placed}
use Rattle.usb_host.proofs.Looks.{near_then, looks_over}
use Rattle.usb_host.proofs.host.Host.look_over.Goals as goal

pub drop_lost_parent-requires-clause-broke : goal.drop_lost_parent-requires-clause-broke
drop_lost_parent-requires-clause-broke g c known =
    breaks c.enumerate_again-looked.result _ (placed known c.requires)
    (c.enumerate_again-looked.ensures.looks known).requested.told

pub returns : goal.returns
returns g c = record {
  call = call_finished _ c.enumerate_again-looked.result c.drop_lost_parent.ensures.call
      c.drop_lost_parent.ensures.ends.ends
      c.enumerate_again-looked.ensures.call.spends
      c.enumerate_again-looked.ensures.call.numbers
      (λ known. (c.enumerate_again-looked.ensures.looks known).requested.works)
      (omega arith);
  changes =
      near_then c.args.path.now c.args.self.now.entries c.enumerate_again-looked.new.self.entries
      c.drop_lost_parent.new.self.entries c.enumerate_again-looked.ensures.call.stay
      c.drop_lost_parent.ensures.ends.near;
  looks = λ known.
      looks_over (placed known c.requires) c.enumerate_again-looked.result c.drop_lost_parent.result
      c.drop_lost_parent.ensures.ends.ends (c.drop_lost_parent.ensures.finishes known)
      (c.enumerate_again-looked.ensures.looks known);
}
