use Rattle.usb_hub.proofs.Backlogs.{reads_backlog}
use Rattle.usb_hub.proofs.RestingRequests.{reads_rests}
use Rattle.usb_hub.proofs.asking.ask.Goals as goal

pub returns-clause-asked : goal.returns-clause-asked
returns-clause-asked g c known = record {
  settled = (c.control_in.ensures.transfer known).settled;
  ends = (c.control_in.ensures.transfer known).ends;
  stages = (c.control_in.ensures.transfer known).stages;
  most = (c.control_in.ensures.transfer known).most;
  rests = reads_rests c.args.target c.args.setup c.control_in.result _ _ c.requires.reads
      (c.control_in.ensures.transfer known).settled (c.control_in.ensures.transfer known).stages;
  backlog = reads_backlog c.args.target c.args.setup c.control_in.result _ _ c.requires.reads
      (c.control_in.ensures.transfer known).settled (c.control_in.ensures.transfer known).stages;
}

pub returns-clause-uses : goal.returns-clause-uses
returns-clause-uses g c = record {
  spends = c.control_in.ensures.any_bus.0;
  told = c.control_in.ensures.any_bus.1;
  steps = c.control_in.ensures.steps;
}
