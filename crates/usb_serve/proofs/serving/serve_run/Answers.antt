use Rattle.std.proofs.Common.{ap, inl, refl}
use Rattle.usb_run.proofs.Interface.{knows_opened}
use Rattle.usb_serve.proofs.ServedItems.{run_written}
use Rattle.usb_serve.proofs.serving.serve_run.Goals as goal

pub returns-in-Ok-clause-written : goal.returns-in-Ok-clause-written
returns-in-Ok-clause-written g c =
    run_written c.args.plan.now _ _ c.in-Ok.runner.host c.trace_run-result.new.runner.host
    c.trace_run-result.result _ c.in-Ok.ensures.opened c.in-Ok.ensures.going
    (c.trace_run-result.ensures.ends (λ _. knows_opened c.args.plan.now c.in-Ok.runner.host
    c.in-Ok.ensures.opened)) c.trace_run-result.ensures.caused
    c.trace_run-result.new.runner.owning.single
    c.into_tracer.ensures.trace

pub returns-in-Err-clause-written : goal.returns-in-Err-clause-written
returns-in-Err-clause-written g c =
    inl (record { refused = refl; nothing = ap g.T.Trace.text c.in-Err.ensures.back })
