use Rattle.std.proofs.Common.{arith, ◌≡◌, ◌∙◌, ap, refl, sym, subst, ◌++◌, ◌∷◌, [], None, IsSome}
use Rattle.std.proofs.Common.{IsTrue}
use Rattle.usb_host.proofs.PartCalls.{call_fails, call_none, call_wider}
use Rattle.usb_port.proofs.Interface.{parent}
use Rattle.usb_table.specs.{known_port}
use Rattle.usb_host.proofs.payments.PortPayments.{number_handled, number_stops, number_unknown}
use Rattle.usb_host.proofs.knowledge.Servers.{below_due}
use Rattle.usb_host.proofs.Services.{pushed_part}
use Rattle.usb_host.proofs.StepSums.{handed_is}
use Rattle.usb_host.proofs.host.Host.handle_below.Goals as goal

pub returns-then-not-push : goal.returns-then-not-push
returns-then-not-push g c = record {
  call = call_none;
  handles = λ known. number_unknown (λ is.
      let pushed = rw (← c.duplicate-path.ensures) at (pushed_part c.args.hub.now c.args.number
      c.requires.0 is) in
      let yes : IsTrue c.push.result = c.push.ensures.pushed.1 pushed in
      absurd (cc (c.if-not-push.true, yes)));
}

pub returns-in_default : goal.returns-in_default
returns-in_default g c = record {
  call = call_none;
  handles = λ known.
      let path = c.push.ensures.yes c.if-not-push.false ∙ ap (λ hub. hub ++ c.args.number ∷ [])
      c.duplicate-path.ensures in
      number_unknown (λ is.
      subst (λ p. known_port p c.args.self.now.entries ≡ None) path
      ((c.in_default.ensures.none known).unknown (rw path
      (subst IsSome (sym (parent c.args.hub.now c.args.number c.requires.0)) refl))));
}

pub returns : goal.returns
returns g c = record {
  call = call_wider c.in_ok-service_port.ensures.call (omega arith);
  handles = λ known.
      let path = c.push.ensures.yes c.if-not-push.false ∙ ap (λ hub. hub ++ c.args.number ∷ [])
      c.duplicate-path.ensures in
      let at = rw path at c.in-Some.ensures.some.known in
      number_handled _ path
      (below_due c.args.hub.now c.args.number c.args.self.now.entries c.in-Some.port
      c.args.self.now.world c.requires.0 at) (c.in_ok-service_port.ensures.handles known);
}

pub returns-in_err-service_port : goal.returns-in_err-service_port
returns-in_err-service_port g c = record {
  call = call_fails c.from_residual.ensures.1 c.in_err-service_port.ensures.call (omega arith);
  handles = λ known.
      let path = c.push.ensures.yes c.if-not-push.false ∙ ap (λ hub. hub ++ c.args.number ∷ [])
      c.duplicate-path.ensures in
      rw (handed_is c.from_residual.ensures.1) (number_stops c.args.number _ path
      (c.in_err-service_port.ensures.handles known));
}
