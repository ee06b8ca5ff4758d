use Rattle.std.proofs.Common.{refl}
use Rattle.usb_sim.specs.{world_of}
use Rattle.usb_run.specs.{idle, run_fault, at_event, in_round}
use Rattle.usb_run.proofs.courses.RunParts.{arrives_taken, arrival_reaches, settling_spent}
use Rattle.usb_run.proofs.courses.RunParts.{taken_fewer, taken_spent}
use Rattle.usb_run.proofs.endings.Ends.{failed_is_caused, error_runs_on}
use Rattle.usb_run.proofs.courses.Ownership.{owning_event}
use Rattle.usb_run.proofs.runs.next_due.Goals as goal

pub returns-in_err-apply_next_event-clause-owning :
    goal.returns-in_err-apply_next_event-clause-owning
returns-in_err-apply_next_event-clause-owning g c = λ o.
    let taken = c.apply_next_event.ensures.takes in
    owning_event c.settle.new.host (world_of c.bus_mut.result.now)
    (world_of c.apply_next_event.new.self) _ c.apply_next_event.result c.bus_mut.ensures.world
    c.in_ok-settle.ensures.on.running
    taken.took taken.exact taken.kept taken.cut taken.limit (c.settle.ensures.owning o)

pub returns-clause-owning : goal.returns-clause-owning
returns-clause-owning g c = λ o.
    let taken = c.apply_next_event.ensures.takes in
    owning_event c.settle.new.host (world_of c.bus_mut.result.now)
    (world_of c.apply_next_event.new.self) _ c.apply_next_event.result c.bus_mut.ensures.world
    c.in_ok-settle.ensures.on.running
    taken.took taken.exact taken.kept taken.cut taken.limit (c.settle.ensures.owning o)

pub returns-clause-on : goal.returns-clause-on
returns-clause-on g c = record {
  goes = λ s.
      arrives_taken c.args.host.now c.settle.new.host _ _ c.in_ok-settle.ensures.on.goes
      (c.in_ok-settle.ensures.leaves.settled c.bus_mut.ensures.agree s) c.bus_mut.ensures.agree
      refl c.bus_mut.ensures.world c.bus_mut.ensures.trace
      c.in_ok-apply_next_event.ensures.takes;
  running = c.in_ok-settle.ensures.on.running;
  caused = tt;
}

pub returns-in_err-apply_next_event-clause-on : goal.returns-in_err-apply_next_event-clause-on
returns-in_err-apply_next_event-clause-on g c =
    error_runs_on _ c.from_residual-in_err-apply_next_event.result
    (run_fault c.in_err-apply_next_event.field-0.0)
    c.from_residual-in_err-apply_next_event.ensures.1
    (λ s. at_event c.in_err-apply_next_event.field-0.0 (arrival_reaches idle
    (arrives_taken c.args.host.now c.settle.new.host _ _ c.in_ok-settle.ensures.on.goes
    (c.in_ok-settle.ensures.leaves.settled c.bus_mut.ensures.agree s) c.bus_mut.ensures.agree
    refl c.bus_mut.ensures.world c.bus_mut.ensures.trace
    c.in_err-apply_next_event.ensures.takes)))
    (failed_is_caused _ _ c.in_err-apply_next_event.ensures.takes.took.ends)

pub returns-in_err-settle-clause-on : goal.returns-in_err-settle-clause-on
returns-in_err-settle-clause-on g c =
    error_runs_on _ c.from_residual.result c.in_err-settle.field-0.0 c.from_residual.ensures.1
    (λ s. in_round idle c.in_err-settle.ensures.on.goes) c.in_err-settle.ensures.on.caused

pub returns-in_err-settle-clause-spent : goal.returns-in_err-settle-clause-spent
returns-in_err-settle-clause-spent g c =
    settling_spent c.args.host.now c.settle.new.host c.settle.result c.settle.ensures.on.goes

pub returns-in_err-apply_next_event-clause-spent : goal.returns-in_err-apply_next_event-clause-spent
returns-in_err-apply_next_event-clause-spent g c =
    taken_spent c.args.host.now c.settle.new.host _ _
    (settling_spent c.args.host.now c.settle.new.host c.settle.result c.settle.ensures.on.goes)
    c.bus_mut.ensures.world c.apply_next_event.ensures.takes

pub returns-clause-spent : goal.returns-clause-spent
returns-clause-spent g c =
    taken_spent c.args.host.now c.settle.new.host _ _
    (settling_spent c.args.host.now c.settle.new.host c.settle.result c.settle.ensures.on.goes)
    c.bus_mut.ensures.world c.apply_next_event.ensures.takes

pub returns-clause-fewer : goal.returns-clause-fewer
returns-clause-fewer g c =
    taken_fewer c.args.host.now c.settle.new.host _ _
    (settling_spent c.args.host.now c.settle.new.host c.settle.result c.settle.ensures.on.goes)
    c.bus_mut.ensures.world c.in_ok-apply_next_event.ensures.takes
