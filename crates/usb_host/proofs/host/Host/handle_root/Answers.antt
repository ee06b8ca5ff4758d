use Rattle.usb_host.proofs.knowledge.Servers.{root_stands}
use Rattle.std.proofs.Common.{subst}
use Rattle.usb_host.specs.{Agrees, HostState}
use Rattle.usb_host.proofs.host.Host.handle_root.Goals as goal

pub service_port-requires : goal.service_port-requires
service_port-requires g c =
    rw (c.root_path.ensures, c.supply.ensures)
    (root_stands c.args.number c.args.self.now c.requires.port c.requires.number
    (subst (λ (h : HostState). Agrees h.options h.entries h.addresses) c.self.view_is
    c.self.invariant))

pub returns-clause-handles : goal.returns-clause-handles
returns-clause-handles g c known = rw c.root_path.ensures at (c.service_port.ensures.handles known)
