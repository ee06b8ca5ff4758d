use Rattle.std.proofs.Common.{sym, ◌∙◌}
use Rattle.usb_sim.specs.{trace_of, world_of}
use Rattle.usb_sim.proofs.Arrivals.{due_begins, due_ends}
use Rattle.usb_sim.proofs.sim.SimBus.take_due_events.Goals as goal

pub returns-clause-came : goal.returns-clause-came
returns-clause-came g c =
    let w = world_of c.args.self.now in
    let begun = due_begins w (trace_of c.args.self.now) c.requires.sound in
    record {
      spends = begun.spends;
      told = c.requires.sound;
      exact = due_ends _ _ _ _ begun (sym c.is_due.ensures.value ∙ c.if-is_due.false);
      cut = tt;
      other = tt;
      text = begun.written;
    }
