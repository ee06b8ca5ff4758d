use Rattle.std.proofs.Common.{sym, ◌∙◌}
use Rattle.usb_sim.specs.{world_of}
use Rattle.usb_sim.proofs.Arrivals.{due_begins, due_goes_on, due_ends, due_cut}
use Rattle.usb_sim.proofs.sim.SimBus.take_all_due.Goals as goal

pub due-init : goal.due-init
due-init g c = record {
  fault = c.requires.sound;
  due = due_begins (world_of c.args.self.now) _ c.requires.sound;
}

pub due-preserved-in_ok-take_event : goal.due-preserved-in_ok-take_event
due-preserved-in_ok-take_event g c = record {
  fault = c.in_ok-take_event.ensures.came.told;
  due = due_goes_on _ _ _ _ _ _ _ c.due.invariant.due
      (sym c.is_due.ensures.value ∙ c.due-test.true) c.in_ok-take_event.ensures.came;
}

pub due-preserved-in_ok-take_event-2 : goal.due-preserved-in_ok-take_event-2
due-preserved-in_ok-take_event-2 g c = record {
  fault = c.in_ok-take_event.ensures.came.told;
  due = due_goes_on _ _ _ _ _ _ _ c.due.invariant.due
      (sym c.is_due.ensures.value ∙ c.due-test.true) c.in_ok-take_event.ensures.came;
}

pub due-preserved-in_ok-take_event-3 : goal.due-preserved-in_ok-take_event-3
due-preserved-in_ok-take_event-3 g c = record {
  fault = c.in_ok-take_event.ensures.came.told;
  due = due_goes_on _ _ _ _ _ _ _ c.due.invariant.due
      (sym c.is_due.ensures.value ∙ c.due-test.true) c.in_ok-take_event.ensures.came;
}

pub due-preserved-in_ok-take_event-4 : goal.due-preserved-in_ok-take_event-4
due-preserved-in_ok-take_event-4 g c = record {
  fault = c.in_ok-take_event.ensures.came.told;
  due = due_goes_on _ _ _ _ _ _ _ c.due.invariant.due
      (sym c.is_due.ensures.value ∙ c.due-test.true) c.in_ok-take_event.ensures.came;
}

pub due-preserved-in_ok-take_event-5 : goal.due-preserved-in_ok-take_event-5
due-preserved-in_ok-take_event-5 g c = record {
  fault = c.in_ok-take_event.ensures.came.told;
  due = due_goes_on _ _ _ _ _ _ _ c.due.invariant.due
      (sym c.is_due.ensures.value ∙ c.due-test.true) c.in_ok-take_event.ensures.came;
}

pub returns-clause-came : goal.returns-clause-came
returns-clause-came g c = record {
  spends = c.due.invariant.due.spends;
  told = c.due.invariant.fault;
  exact = due_ends _ _ _ _ c.due.invariant.due (sym c.is_due.ensures.value ∙ c.due-test.false);
  cut = tt;
  other = tt;
  text = c.due.invariant.due.written;
}

-- an event was refused
pub returns-in_err-take_event-clause-came : goal.returns-in_err-take_event-clause-came
returns-in_err-take_event-clause-came g c =
    due_cut c.from_residual.result _ _ (world_of c.due.self) _ _ _ _ c.from_residual.ensures.1
    c.due.invariant.due (sym c.is_due.ensures.value ∙ c.due-test.true)
    c.in_err-take_event.ensures.came
