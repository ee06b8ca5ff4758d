use Rattle.std.proofs.Common.{◌≡◌, arith, refl, rules, true}
use Rattle.usb_transfer.proofs.Interface.{uses_none}
use Rattle.usb_hub.proofs.AddressesKept.{status_keeps, hub_status_keeps}
use Rattle.usb_hub.proofs.Moments.{root_tells, hub_tells}
use Rattle.usb_hub.proofs.Ports.{asked-root, asked_port}
use Rattle.usb_hub.proofs.port.port_status.Goals as goal

pub returns-else-not-has_root-clause-uses : goal.returns-else-not-has_root-clause-uses
returns-else-not-has_root-clause-uses g c = uses_none tt

pub returns-in-External-clause-uses : goal.returns-in-External-clause-uses
returns-in-External-clause-uses g c = rw c.in-External.is c.hub_port_status.ensures.uses

pub returns-else-not-has_root-clause-status : goal.returns-else-not-has_root-clause-status
returns-else-not-has_root-clause-status g c known = search rules

pub returns-else-not-has_root-clause-addresses : goal.returns-else-not-has_root-clause-addresses
returns-else-not-has_root-clause-addresses g c known =
    status_keeps c.args.port _ _ _ c.in-Root.number c.in-Root.is
    (returns-else-not-has_root-clause-status g c known)

pub returns-in-External-clause-addresses : goal.returns-in-External-clause-addresses
returns-in-External-clause-addresses g c known =
    hub_status_keeps c.args.port _ _ _ _ _ c.in-External.is (c.hub_port_status.ensures.told known)
    (c.hub_port_status.ensures.keeps known)

pub returns-else-not-has_root-clause-told : goal.returns-else-not-has_root-clause-told
returns-else-not-has_root-clause-told g c known = root_tells c.args.port c.in-Root.number _ _ _
    c.in-Root.is
    (asked_port g.B.Bus.modelled (g.B.Bus.world c.args.bus.now) c.args.port known c.requires)
    (returns-else-not-has_root-clause-status g c known)

pub returns-in-External-clause-told : goal.returns-in-External-clause-told
returns-in-External-clause-told g c known =
    hub_tells c.args.port _ _ _ _ _ c.in-External.is (c.hub_port_status.ensures.told known)

pub root_status-requires : goal.root_status-requires
root_status-requires g c =
    let there = c.has_root.ensures.there c.if-not-has_root.false in
    record { least = there.0; most = there.1 }

pub returns-then-not-has_root : goal.returns-then-not-has_root
returns-then-not-has_root g c =
    let there = λ (known : g.B.Bus.modelled ≡ true). c.has_root.ensures.known known (asked-root
    g.B.Bus.modelled (g.B.Bus.world c.args.bus.now) c.in-Root.is c.requires known) in
    record {
      uses = record {
        spends = (omega arith, refl);
        told = tt;
        steps = λ known. absurd (cc (c.if-not-has_root.true, there known));
      };
      fault = λ known. absurd (cc (c.if-not-has_root.true, there known));
      status = λ known. absurd (cc (c.if-not-has_root.true, there known));
      told = λ known. absurd (cc (c.if-not-has_root.true, there known));
      addresses = λ known. absurd (cc (c.if-not-has_root.true, there known));
    }
