use Rattle.std.proofs.Common.{◌≡◌, ◌∙◌, List, refl, Result, subst, sym, ℕ}
use Rattle.std.specs.Global.{Vec}
use Rattle.usb_request.specs.{IsToHost, Setup}
use Rattle.usb_host.specs.{HostFault, HostState, ReadTells}
use Rattle.usb_run.proofs.endings.Ends.{transfer_goes, transfer_stops}
use Rattle.usb_run.proofs.asked.read.Goals as goal

tells_same : (path : List ℕ) {s setup : Setup} {old new : HostState}
    {result : Result (Vec ℕ) HostFault} → ReadTells path s old result new → s ≡ setup
    → ReadTells path setup old result new
tells_same path {old = old} {new} {result} tells same =
    subst (λ (x : Setup). ReadTells path x old result new) same tells

pub returns-in_err-bytes : goal.returns-in_err-bytes
returns-in_err-bytes g c = transfer_stops
    (tells_same c.args.path (c.control_in.ensures.tells refl) c.setup.ensures.value)
    c.from_residual.result c.in_err-bytes.field-0.0 c.from_residual.ensures.1
    (sym c.answered.ensures ∙ c.in_err-bytes.was) (λ stops. stops)

pub returns : goal.returns
returns g c = transfer_goes
    (tells_same c.args.path (c.control_in.ensures.tells refl) c.setup.ensures.value)
    c.in_ok-bytes.bytes (sym c.answered.ensures ∙ c.in_ok-bytes.was) c.requires.running (λ made. (
      subst IsToHost c.setup.ensures.value c.setup.ensures.reads,
      (c.in_ok-bytes.bytes, refl, made),
    ))
