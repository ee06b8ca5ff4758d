use Rattle.usb_host.proofs.PartCalls.{call_none}
use Rattle.std.proofs.Common.{◌≡◌, ◌∙◌, ◌++◌, ◌∷◌, [], None, IsSome, IsTrue, ap, arith, refl, subst}
use Rattle.std.proofs.Common.{sym}
use Rattle.usb_port.proofs.Interface.{parent}
use Rattle.usb_table.specs.{known_port}
use Rattle.usb_host.specs.{own_unknown}
use Rattle.usb_host.proofs.StepSums.{host_goes_none}
use Rattle.usb_host.proofs.devices.Owners.{stays_owned_none}
use Rattle.usb_host.proofs.PortServes.{own_at}
use Rattle.usb_host.proofs.Services.{pushed_part}
use Rattle.usb_host.proofs.host.Host.serve_own.Goals as goal

pub returns-then-not-push : goal.returns-then-not-push
returns-then-not-push g c = record {
  call = call_none;
  serves = λ known. record {
    goes = host_goes_none;
    holds = omega arith;
    owned = stays_owned_none;
    served = own_unknown (λ is.
        let pushed = rw (← c.duplicate-path.ensures) at
        (pushed_part c.args.hub.now 1 c.requires.0 is) in
        let yes : IsTrue c.push.result = c.push.ensures.pushed.1 pushed in
        absurd (cc (c.if-not-push.true, yes))) refl;
  };
}

pub returns-in_default : goal.returns-in_default
returns-in_default g c = record {
  call = call_none;
  serves = λ known.
      let path = c.push.ensures.yes c.if-not-push.false ∙ ap (λ hub. hub ++ 1 ∷ [])
      c.duplicate-path.ensures in
      record {
        goes = host_goes_none;
        holds = omega arith;
        owned = stays_owned_none;
        served = own_unknown (λ is.
            subst (λ p. known_port p c.args.self.now.entries ≡ None) path
            ((c.in_default.ensures.none known).unknown (rw path
            (subst IsSome (sym (parent c.args.hub.now 1 c.requires.0)) refl)))) refl;
      };
}

pub returns-clause-serves : goal.returns-clause-serves
returns-clause-serves g c known =
    let path = c.push.ensures.yes c.if-not-push.false ∙ ap (λ hub. hub ++ 1 ∷ [])
    c.duplicate-path.ensures in
    own_at c.args.hub.now (rw path at (c.handle_own.ensures.serves known))
