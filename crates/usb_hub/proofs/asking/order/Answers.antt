use Rattle.usb_hub.proofs.Orders.{order_elsewhere}
use Rattle.usb_hub.proofs.Backlogs.{write_backlog}
use Rattle.usb_hub.proofs.RestingRequests.{write_rests}
use Rattle.usb_hub.proofs.asking.order.Goals as goal

pub returns-clause-ordered : goal.returns-clause-ordered
returns-clause-ordered g c known = record {
  settled = (c.control_none.ensures.transfer known).settled;
  ends = (c.control_none.ensures.transfer known).ends;
  stages = (c.control_none.ensures.transfer known).stages;
  room = (c.control_none.ensures.transfer known).room;
  rests = write_rests c.args.target c.args.setup c.control_none.result _ _
      (c.control_none.ensures.transfer known).settled
      (c.control_none.ensures.transfer known).stages;
  backlog = write_backlog c.args.target c.args.setup c.control_none.result _ _
      (c.control_none.ensures.transfer known).settled
      (c.control_none.ensures.transfer known).stages;
  elsewhere = order_elsewhere c.args.target c.args.setup c.control_none.result _ _
      (c.control_none.ensures.transfer known).stages;
}

pub returns-clause-uses : goal.returns-clause-uses
returns-clause-uses g c = record {
  spends = c.control_none.ensures.any_bus.0;
  told = c.control_none.ensures.any_bus.1;
  steps = c.control_none.ensures.steps;
}
