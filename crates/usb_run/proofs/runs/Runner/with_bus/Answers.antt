use Rattle.std.proofs.Common.{ap, refl, subst, sym, ◌∙◌, ◌+◌, ◌≤◌}
use Rattle.usb_world.specs.{World, to_come}
use Rattle.usb_host.specs.{HostState}
use Rattle.usb_run.proofs.endings.Ends.{opens_with}
use Rattle.usb_run.proofs.runs.Runner.with_bus.Goals as goal

pub invariant_of-result : goal.invariant_of-result
invariant_of-result g c = record {
  running = λ _. ap (λ (h : HostState). h.stopped) c.host_of.ensures.opens;
  owning = c.host_of.ensures.owning (ap (λ (w : World). w.shared) c.requires);
  few_events = subst (λ (h : HostState). h.world.taken + to_come h.world ≤ 10000)
      (sym c.host_of.ensures.opens) c.args.bus.few_events;
}

pub returns-clause-opened : goal.returns-clause-opened
returns-clause-opened g c =
    let tells = c.host_of.ensures in
    opens_with c.args.plan.now _ _ c.host_of.result c.requires refl
    (rw (sym c.wide_hubs.ensures.value) tells.opens)
    tells.traced tells.sound
    c.events-events.ensures.plan c.events-events.ensures.paths

pub returns-clause-begun : goal.returns-clause-begun
returns-clause-begun g c =
    let opens = c.host_of.ensures.opens in
    record {
      attempts = ap (λ (h : HostState). h.world.attempts) opens
          ∙ ap (λ (w : World). w.attempts) c.requires;
      limit = ap (λ (h : HostState). h.world.limit) opens ∙ ap (λ (w : World). w.limit) c.requires;
    }
