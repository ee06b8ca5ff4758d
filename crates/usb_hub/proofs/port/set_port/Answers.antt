use Rattle.std.proofs.Common.{◌≡◌, arith, refl, true}
use Rattle.usb_bus.specs.{still}
use Rattle.usb_bus.proofs.Interface.{traced_set}
use Rattle.usb_hub.proofs.Calls.{root_sets, hub_sets}
use Rattle.usb_hub.proofs.Ports.{asked-root, asked_port, port_set-root, set_went-root}
use Rattle.usb_hub.proofs.port.set_port.Goals as goal

pub returns-else-not-has_root-clause-effect : goal.returns-else-not-has_root-clause-effect
returns-else-not-has_root-clause-effect g c known =
    port_set-root c.args.port _ _ _ _ c.in-Root.is
    (asked_port g.B.Bus.modelled (g.B.Bus.world c.args.bus.now) c.args.port known c.requires.port)
    c.requires.named (c.root_set.ensures.call known)

pub returns-else-not-has_root-clause-uses : goal.returns-else-not-has_root-clause-uses
returns-else-not-has_root-clause-uses g c = record {
  spends = rw c.in-Root.is c.root_set.ensures.unspent;
  told = tt;
  steps = λ known. set_went-root g.B.Bus.world g.B.Bus.trace c.args.port _ _ _ _ c.in-Root.is
      (returns-else-not-has_root-clause-effect g c known)
      (traced_set _ _ c.requires.named still (c.root_set.ensures.call known)
      (c.root_set.ensures.silent known));
}

pub returns-in-External-clause-uses : goal.returns-in-External-clause-uses
returns-in-External-clause-uses g c =
    let set = c.set_hub_port.ensures.uses in
    rw c.in-External.is (record { spends = set.spends; told = set.told; steps = set.steps })

pub returns-else-not-has_root-clause-ports : goal.returns-else-not-has_root-clause-ports
returns-else-not-has_root-clause-ports g c known =
    root_sets c.args.port _ _ _ _ c.in-Root.is (c.root_set.ensures.call known)

pub returns-in-External-clause-ports : goal.returns-in-External-clause-ports
returns-in-External-clause-ports g c known = hub_sets c.args.port _ _ _ _ _ _ c.in-External.is
    c.requires.named (c.set_hub_port.ensures.ordered known)

pub root_set-requires : goal.root_set-requires
root_set-requires g c =
    let there = c.has_root.ensures.there c.if-not-has_root.false in
    record { least = there.0; most = there.1; named = c.requires.named }

pub returns-then-not-has_root : goal.returns-then-not-has_root
returns-then-not-has_root g c =
    let there = λ (known : g.B.Bus.modelled ≡ true). c.has_root.ensures.known known (asked-root
    g.B.Bus.modelled (g.B.Bus.world c.args.bus.now) c.in-Root.is c.requires.port known) in
    record {
      uses = record {
        spends = (omega arith, refl);
        told = tt;
        steps = λ known. absurd (cc (c.if-not-has_root.true, there known));
      };
      fault = λ known. absurd (cc (c.if-not-has_root.true, there known));
      effect = λ known. absurd (cc (c.if-not-has_root.true, there known));
      addresses = λ known. absurd (cc (c.if-not-has_root.true, there known));
      ports = λ known. absurd (cc (c.if-not-has_root.true, there known));
    }
