use Rattle.std.proofs.Common.{◌≡◌, arith, refl, true}
use Rattle.usb_bus.specs.{still}
use Rattle.usb_bus.proofs.Interface.{traced_cleared}
use Rattle.usb_hub.proofs.Calls.{root_clears, hub_clears}
use Rattle.usb_hub.proofs.AddressesKept.{root_clear_keeps_port}
use Rattle.usb_hub.proofs.Ports.{asked-root, asked_port, port_cleared-root, cleared_spends-root}
use Rattle.usb_hub.proofs.port.clear_port.Goals as goal

pub returns-else-not-has_root-clause-effect : goal.returns-else-not-has_root-clause-effect
returns-else-not-has_root-clause-effect g c known = port_cleared-root c.args.port _ _ _ _
    c.in-Root.is
    (asked_port g.B.Bus.modelled (g.B.Bus.world c.args.bus.now) c.args.port known c.requires.port)
    c.requires.named (c.root_clear.ensures.call known)

pub returns-else-not-has_root-clause-uses : goal.returns-else-not-has_root-clause-uses
returns-else-not-has_root-clause-uses g c = record {
  spends = rw c.in-Root.is c.root_clear.ensures.unspent;
  told = tt;
  steps = λ known. record {
    spends = cleared_spends-root c.args.port _ _ _ _ c.in-Root.is
        (returns-else-not-has_root-clause-effect g c known);
    traced = traced_cleared _ _ c.requires.named still (c.root_clear.ensures.call known)
        (c.root_clear.ensures.silent known);
  };
}

pub returns-in-External-clause-uses : goal.returns-in-External-clause-uses
returns-in-External-clause-uses g c = rw c.in-External.is c.clear_hub_port.ensures.uses

pub returns-else-not-has_root-clause-addresses : goal.returns-else-not-has_root-clause-addresses
returns-else-not-has_root-clause-addresses g c known = root_clear_keeps_port c.args.port _ _ _ _
    c.in-Root.is
    c.requires.named (c.root_clear.ensures.call known)

pub returns-else-not-has_root-clause-ports : goal.returns-else-not-has_root-clause-ports
returns-else-not-has_root-clause-ports g c known =
    root_clears c.args.port _ _ _ _ c.in-Root.is (c.root_clear.ensures.call known)

pub returns-in-External-clause-ports : goal.returns-in-External-clause-ports
returns-in-External-clause-ports g c known = hub_clears c.args.port _ _ _ _ _ _ c.in-External.is
    c.requires.named (c.clear_hub_port.ensures.ordered known)

pub root_clear-requires : goal.root_clear-requires
root_clear-requires g c =
    let there = c.has_root.ensures.there c.if-not-has_root.false in
    record { least = there.0; most = there.1; named = c.requires.named }

pub returns-then-not-has_root : goal.returns-then-not-has_root
returns-then-not-has_root g c =
    let there = λ (known : g.B.Bus.modelled ≡ true). c.has_root.ensures.known known (asked-root
    g.B.Bus.modelled (g.B.Bus.world c.args.bus.now) c.in-Root.is c.requires.port known) in
    record {
      uses = record {
        spends = (omega arith, refl);
        told = tt;
        steps = λ known. absurd (cc (c.if-not-has_root.true, there known));
      };
      fault = λ known. absurd (cc (c.if-not-has_root.true, there known));
      effect = λ known. absurd (cc (c.if-not-has_root.true, there known));
      addresses = λ known. absurd (cc (c.if-not-has_root.true, there known));
      ports = λ known. absurd (cc (c.if-not-has_root.true, there known));
    }
