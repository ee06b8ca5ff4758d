use Rattle.std.proofs.Common.{◌≡◌, ◌-◌, ◌*◌, true, Ok}
use Rattle.usb_host.specs.{PartCall, handling_bound}
use Rattle.usb_host.proofs.RoundLoops.{PortsHandled}
use Rattle.usb_host.proofs.host.Host.serve_ports.Given as goal

abbrev pub invariant-ports : goal.invariant-ports
invariant-ports g l = record {
  call : PartCall {A = Unit {0}} g.B.Bus.modelled ((l.number - 1) * handling_bound)
      l.initial.self (Ok tt) l.self;
  so : g.B.Bus.modelled ≡ true → PortsHandled l.hub l.bits l.number l.initial.self l.self;
}
