use Rattle.std.proofs.Common.{◌≡◌, ◌∙◌, ap, length, List, refl, Result, Some, subst, sym, ℕ}
use Rattle.usb_request.specs.{IsToDevice, Setup}
use Rattle.usb_host.specs.{HostFault, HostState, WriteTells}
use Rattle.usb_run.specs.{Answer, Sent, sent_count}
use Rattle.usb_run.specs.declared.item.Task.TheVariants as task
use Rattle.usb_run.proofs.endings.Ends.{transfer_goes, transfer_stops}
use Rattle.usb_run.proofs.asked.write.Goals as goal

pub control_out-requires-clause-writes : goal.control_out-requires-clause-writes
control_out-requires-clause-writes g c =
    subst IsToDevice (sym c.setup.ensures.value) c.setup.ensures.writes.0

pub control_out-requires-clause-all : goal.control_out-requires-clause-all
control_out-requires-clause-all g c = ap (λ (s : Setup). s.length) c.setup.ensures.value
    ∙ c.setup.ensures.writes.1 ∙ ap length (sym c.bytes-bytes.ensures.value)

tells_same : (path : List ℕ) {s setup : Setup} {b bytes : List ℕ} {old new : HostState}
    {result : Result (Unit {0}) HostFault} → WriteTells path s b old result new → s ≡ setup
    → b ≡ bytes → WriteTells path setup bytes old result new
tells_same path {setup = setup} {b} {old = old} {new} {result} tells same is =
    subst (λ (l : List ℕ). WriteTells path setup l old result new) is
    (subst (λ (x : Setup). WriteTells path x b old result new) same tells)

pub returns-in_err-written : goal.returns-in_err-written
returns-in_err-written g c = transfer_stops
    (tells_same c.args.path (c.control_out.ensures.tells refl) c.setup.ensures.value
    c.bytes-bytes.ensures.value) c.from_residual.result c.in_err-written.field-0.0
    c.from_residual.ensures.1 (sym c.answered.ensures ∙ c.in_err-written.was) (λ stops. stops)

pub returns : goal.returns
returns g c = transfer_goes
    (tells_same c.args.path (c.control_out.ensures.tells refl) c.setup.ensures.value
    c.bytes-bytes.ensures.value) c.in_ok-written.written
    (sym c.answered.ensures ∙ c.in_ok-written.was) c.requires.running (λ made. (
      c.setup.ensures.writes,
      (
        c.in_ok-written.written,
        ap (λ s. Some (Answer c.args.path task.ControlOut (Sent s))) c.counted.ensures
            ∙ ap (λ (b : List ℕ). Some (Answer c.args.path task.ControlOut
            (Sent (sent_count (length b) c.in_ok-written.written)))) c.bytes-bytes.ensures.value,
        made,
      ),
    ))
