use Rattle.usb_hub.proofs.requests.get_config.Goals as goal

pub returns-clause-uses : goal.returns-clause-uses
returns-clause-uses g c =
    let long = c.get_configuration_descriptor.ensures.data_length in
    let uses = rw long at c.ask.ensures.uses in
    record {
      spends = uses.spends;
      told = record { told = uses.told; within = rw long at c.ask.ensures.most };
      steps = uses.steps;
    }
