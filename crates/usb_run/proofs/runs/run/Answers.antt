use Rattle.std.proofs.Common.{◌≡◌, ◌≢◌, ◌∙◌, ap, inl, refl, subst, Some, Err}
use Rattle.usb_world.specs.declared.types.BusFault.TheVariants as bus
use Rattle.usb_world.specs.{World}
use Rattle.usb_host.specs.{HostState}
use Rattle.usb_run.specs.{Memory}
use Rattle.usb_run.proofs.endings.Ends.{knows_opened}
use Rattle.usb_run.proofs.ledgers.Enough.{ends_enough}
use Rattle.usb_run.proofs.items.ReportedItems.{ends_plugged, ends_untraced, reports_limit}
use Rattle.usb_run.proofs.runs.run.Goals as goal

pub returns-in-Err-clause-ends : goal.returns-in-Err-clause-ends
returns-in-Err-clause-ends c = inl refl

pub returns-clause-ends : goal.returns-clause-ends
returns-clause-ends c =
    let opened = c.in-Ok.ensures.opened in
    let same : c.bus.result.now.fault ≡ c.finish-report.new.self.host.world.fault =
    ap (λ (w : World). w.fault) c.bus.ensures.world
    ∙ ap (λ (h : HostState). h.world.fault) c.host.ensures in
    let other : c.finish-report.new.self.host.world.fault ≢ Some bus.Failed =
    subst (λ f. f ≢ Some bus.Failed) same c.untraced_fault.ensures in
    ends_untraced c.args.plan.now _ _ c.in-Ok.runner.host c.finish-report.new.self.host
    c.finish-report.result opened c.in-Ok.ensures.going
    (c.finish-report.ensures.finishes (λ _. knows_opened c.args.plan.now c.in-Ok.runner.host
    opened)) c.finish-report.new.self.owning.single other

pub returns-clause-limit : goal.returns-clause-limit
returns-clause-limit c =
    let opened = c.in-Ok.ensures.opened in
    reports_limit c.in-Ok.runner.over c.in-Ok.runner.host c.finish-report.new.self.host
    c.finish-report.result c.args.plan.now.limit
    (c.finish-report.ensures.finishes (λ _. knows_opened c.args.plan.now c.in-Ok.runner.host
    opened)) c.in-Ok.ensures.begun.attempts c.in-Ok.ensures.begun.limit

pub returns-clause-listings : goal.returns-clause-listings
returns-clause-listings c = ends_plugged c.args.plan.now c.finish-report.result
    (returns-clause-ends c)

pub returns-in-Err-clause-enough : goal.returns-in-Err-clause-enough
returns-in-Err-clause-enough c = ends_enough c.args.plan.now (Err Memory) (inl refl)

pub returns-clause-enough : goal.returns-clause-enough
returns-clause-enough c = ends_enough c.args.plan.now c.finish-report.result (returns-clause-ends c)
